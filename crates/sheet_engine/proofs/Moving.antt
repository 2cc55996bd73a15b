-- Each step of the settling keeps what holds of results and started cells, and leaves less to do.
use Rattle.std.proofs.Common.{◌≡◌, refl, sym, ap, ◌∙◌, subst, inl, inr, ⊎_elim, ℕ, ◌<◌}
use Rattle.std.proofs.Common.{Bool, true, false, List, [], ◌∷◌, ◌++◌, arith, Option, Some, None, rules}
use Rattle.std.specs.Prelude.{◌⊎◌, if◌then◌else◌, IsSome}
use Rattle.sheet_values.specs.declared.value.Value.{Value}
use Rattle.sheet_meaning.specs.Run.{Outcome as Result_of, none}
use Rattle.sheet_meaning.specs.Rounds.{meaning}
use Rattle.sheet_meaning.specs.Support.{Cell, has_cell, cell_at}
use Rattle.sheet_meaning.specs.Told.{is_lacking}
use Rattle.sheet_meaning.specs.Workbook.{formula_cells}
use Rattle.sheet_books.specs.declared.book.Contents.{Contents}
use Rattle.sheet_state.specs.Stored.{Stored}
use Rattle.sheet_engine_laws.specs.Chains.{Chained, LastReads}
use Rattle.sheet_engine_laws.proofs.Settled.{chains_are_cycles}
use Rattle.sheet_engine.specs.Seen.{workbook_of}
use Rattle.sheet_engine.specs.Standings.{Entries, stands, Puts, weight, result_or, is_there, Later, Grows}
use Rattle.sheet_engine.specs.Started.{IsServed, ResultsHold, AreApart, IsUnderWay, IsWaiting, ReadsAll, Lacks}
use Rattle.sheet_engine.specs.Started.{left, MayStart, Advances, cell_of, cells_started, closing, found_of}
use Rattle.sheet_engine.specs.declared.settling.Frame.{Frame}
use Rattle.sheet_engine.specs.declared.standings.Standing.{Standing}
use Rattle.sheet_engine.specs.declared.standings.Standing.TheVariants.{Started, Settled}
use Rattle.sheet_engine.proofs.BookCells.{there_is}
use Rattle.sheet_engine.proofs.Counting.{later_itself, grows_on, left_less, falls_at, put_here, put_cases, put_grows}
use Rattle.sheet_engine.proofs.Results.{some_by, lacking_there}
use Rattle.sheet_engine.proofs.Snocs.{cells_snoc, had_snoc, has_front, has_last, apart_snoc}
use Rattle.sheet_engine.proofs.Snocs.{front_apart, all_snoc, all_front, chained_snoc, front_chained, last_reads}

-- a standing is not nothing, and neither waits where it has a result
not_none : (s : Option Standing) → s ≡ Some Started → s ≡ None → ⊥
not_none s a b = let bad : Some Started ≡ None = sym a ∙ b in cc

not_both : (s : Option Standing) (r : Result_of (List Value)) → s ≡ Some Started → s ≡ Some (Settled r) → ⊥
not_both s r a b = let bad : Some Started ≡ Some (Settled r) = sym a ∙ b in cc

same_result : (s : Option Standing) (r q : Result_of (List Value)) → s ≡ Some (Settled r) → s ≡ Some (Settled q) → q ≡ r
same_result s r q a b = let same : Some (Settled r) ≡ Some (Settled q) = sym a ∙ b in cc

lacking_weight : (s : Option Standing) (there : Bool) → is_lacking (result_or s there none) ≡ true → 0 < weight s
lacking_weight None there h = omega arith
lacking_weight (Some Started) there h = omega arith
lacking_weight (Some (Settled r)) there h = cc

found_weight : (s : Option Standing) (there : Bool) → there ≡ true → is_lacking (result_or s there none) ≡ false → weight s ≡ 0
found_weight None true e h = cc
found_weight None false e h = cc
found_weight (Some Started) true e h = cc
found_weight (Some Started) false e h = cc
found_weight (Some (Settled r)) there e h = refl

true_or_false : (t : Bool) → (t ≡ true) ⊎ (t ≡ false)
true_or_false true = inl refl
true_or_false false = inr refl

module _ (b : Contents) (k : Stored) where
  module _ (fs : List Frame) (f : Frame) where
    -- what the last cell needs, it reads
    pub last_needs : (es : Entries) (y : Cell) → IsUnderWay b k es (fs ++ f ∷ []) → has_cell f.needs y ≡ true →
        LastReads (workbook_of b k) (cells_started (fs ++ f ∷ [])) y
    last_needs es y u h =
        subst (λ cs. LastReads (workbook_of b k) cs y) (sym (cells_snoc fs f))
        (last_reads (workbook_of b k) (cells_started fs) (cell_of f) y ((all_front (IsWaiting b k) fs f u.waiting).1.needs y h))

    -- the last cell may need other cells, or be at another of them
    pub other_needs : (es : Entries) (g : Frame) → IsUnderWay b k es (fs ++ f ∷ []) → cell_of f ≡ cell_of g → ReadsAll b k (cell_of g) g.needs →
        IsUnderWay b k es (fs ++ g ∷ [])
    other_needs es g u e reads =
        let same : cells_started (fs ++ f ∷ []) ≡ cells_started (fs ++ g ∷ []) =
        cells_snoc fs f ∙ ap (λ x. cells_started fs ++ x ∷ []) e ∙ sym (cells_snoc fs g) in
        let fronts = all_front (IsWaiting b k) fs f u.waiting in record {
          results = u.results;
          started = λ x h. subst (λ cs. has_cell cs x ≡ true) same (u.started x h);
          starts = λ x h. u.starts x (subst (λ cs. has_cell cs x ≡ true) (sym same) h);
          apart = subst AreApart same u.apart;
          waiting =
              all_snoc (IsWaiting b k) fs g fronts.0
              (record { there = subst (λ (x : Cell). is_there b k.present.state x.0 x.1 ≡ true) e fronts.1.there; needs = reads });
          chained = subst (Chained (workbook_of b k)) same u.chained;
        }

    -- the last cell may go on to another place among its needs
    pub next_place : (es : Entries) (n : ℕ) → IsUnderWay b k es (fs ++ f ∷ []) →
        IsUnderWay b k es (fs ++ record { object = f.object; column = f.column; needs = f.needs; next = n } ∷ [])
    next_place es n u = other_needs es _ u refl (all_front (IsWaiting b k) fs f u.waiting).1.needs

  module _ (served : IsServed b k) (es new : Entries) where
    falls_here : (x : Cell) → Grows es new → is_there b k.present.state x.0 x.1 ≡ true → weight (stands new x) < weight (stands es x) →
        left b k new < left b k es
    falls_here x grows there l =
        falls_at es new grows (formula_cells (workbook_of b k)) x
        (some_by (cell_at (formula_cells (workbook_of b k)) x) (sym (there_is b k served x) ∙ there)) l

    module _ (fs : List Frame) where
      -- a cell is started
      pub begin : (f : Frame) → IsUnderWay b k es fs → MayStart b k fs (cell_of f) → stands es (cell_of f) ≡ None →
          is_there b k.present.state f.object f.column ≡ true → ReadsAll b k (cell_of f) f.needs → Puts es new (cell_of f) Started →
          Advances b k es new (fs ++ f ∷ [])
      begin f u next fresh there reads puts =
          let x = cell_of f in
          let here = put_here es new x Started puts in
          let cases = put_cases es new x Started puts in
          let grows = put_grows es new x Started puts (subst (λ s. Later s (Some Started)) (sym fresh) tt) in record {
            under_way = record {
              results = λ y r at. ⊎_elim (λ e. absurd (not_both (stands new y) r (subst (λ z. stands new z ≡ Some Started) e here) at))
                  (λ e. u.results y r (sym e ∙ at)) (cases y);
              started = λ y at.
                  subst (λ cs. has_cell cs y ≡ true) (sym (cells_snoc fs f))
                  (⊎_elim (λ e. subst (λ z. has_cell (cells_started fs ++ x ∷ []) z ≡ true) e (has_last (cells_started fs) x))
                  (λ e. has_front (cells_started fs) x y (u.started y (sym e ∙ at))) (cases y));
              starts = λ y h.
                  ⊎_elim (λ e. subst (λ z. stands new z ≡ Some Started) e here)
                  (λ e.
                  ⊎_elim (λ i. e ∙ u.starts y i) (λ s. subst (λ z. stands new z ≡ Some Started) (sym s) here)
                  (had_snoc (cells_started fs) x y (subst (λ cs. has_cell cs y ≡ true) (cells_snoc fs f) h)))
                  (cases y);
              apart =
                  subst AreApart (sym (cells_snoc fs f))
                  (apart_snoc (cells_started fs) x u.apart (λ h. not_none (stands es x) (u.starts x h) fresh));
              waiting = all_snoc (IsWaiting b k) fs f u.waiting (record { there = there; needs = reads });
              chained =
                  subst (Chained (workbook_of b k)) (sym (cells_snoc fs f))
                  (chained_snoc (workbook_of b k) (cells_started fs) x u.chained (⊎_elim (λ e. inl (ap cells_started e)) (λ r. inr r) next));
            };
            grows = grows;
            falls =
                falls_here x grows there
                (let one : weight (stands new x) ≡ 1 = ap weight here in let two : weight (stands es x) ≡ 2 = ap weight fresh in omega arith);
          }

      module _ (x : Cell) (r : Result_of (List Value)) (means : meaning (workbook_of b k) x.0 x.1 ≡ r) (puts : Puts es new x (Settled r)) where
        here : stands new x ≡ Some (Settled r)
        here = put_here es new x (Settled r) puts

        cases : (y : Cell) → (x ≡ y) ⊎ (stands new y ≡ stands es y)
        cases = put_cases es new x (Settled r) puts

        here_too : (y : Cell) → x ≡ y → stands new y ≡ Some (Settled r)
        here_too y e = subst (λ z. stands new z ≡ Some (Settled r)) e here

        -- the new result is a meaning too
        results_hold : (ResultsHold b k es) → ResultsHold b k new
        results_hold hold y q at =
            ⊎_elim
            (λ e. same_result (stands new y) r q (here_too y e) at ∙ sym means ∙ ap (λ (z : Cell). meaning (workbook_of b k) z.0 z.1) e)
            (λ e. hold y q (sym e ∙ at))
            (cases y)

        -- a cell that isn't started gets its result
        pub settle_fresh : IsUnderWay b k es fs → stands es x ≡ None → is_there b k.present.state x.0 x.1 ≡ true → Advances b k es new fs
        settle_fresh u fresh there =
            let grows = put_grows es new x (Settled r) puts (subst (λ s. Later s (Some (Settled r))) (sym fresh) tt) in record {
              under_way = record {
                results = results_hold u.results;
                started = λ y at. ⊎_elim (λ e. absurd (not_both (stands new y) r at (here_too y e))) (λ e. u.started y (sym e ∙ at)) (cases y);
                starts = λ y h.
                    ⊎_elim (λ e. absurd (not_none (stands es y) (u.starts y h) (subst (λ z. stands es z ≡ None) e fresh))) (λ e. e ∙ u.starts y h) (cases y);
                apart = u.apart;
                waiting = u.waiting;
                chained = u.chained;
              };
              grows = grows;
              falls =
                  falls_here x grows there
                  (let no : weight (stands new x) ≡ 0 = ap weight here in let two : weight (stands es x) ≡ 2 = ap weight fresh in omega arith);
            }

      -- the last started cell gets its result
      pub close : (f : Frame) (r : Result_of (List Value)) → meaning (workbook_of b k) f.object f.column ≡ r → Puts es new (cell_of f) (Settled r) →
          IsUnderWay b k es (fs ++ f ∷ []) → Advances b k es new fs
      close f r means puts u =
          let x = cell_of f in
          let started : stands es x ≡ Some Started =
          u.starts x (subst (λ cs. has_cell cs x ≡ true) (sym (cells_snoc fs f)) (has_last (cells_started fs) x)) in
          let fronts = all_front (IsWaiting b k) fs f u.waiting in
          let apart = front_apart (cells_started fs) x (subst AreApart (cells_snoc fs f) u.apart) in
          let grows = put_grows es new x (Settled r) puts (subst (λ s. Later s (Some (Settled r))) (sym started) (search rules)) in record {
            under_way = record {
              results = results_hold x r means puts u.results;
              started = λ y at.
                  ⊎_elim (λ e. absurd (not_both (stands new y) r at (here_too x r means puts y e)))
                  (λ e.
                  ⊎_elim (λ i. i) (λ s. absurd (not_both (stands new y) r at (here_too x r means puts y (sym s))))
                  (had_snoc (cells_started fs) x y (subst (λ cs. has_cell cs y ≡ true) (cells_snoc fs f) (u.started y (sym e ∙ at)))))
                  (cases x r means puts y);
              starts = λ y h.
                  ⊎_elim (λ e. absurd (apart.1 (subst (λ z. has_cell (cells_started fs) z ≡ true) (sym e) h)))
                  (λ e. e ∙ u.starts y (subst (λ cs. has_cell cs y ≡ true) (sym (cells_snoc fs f)) (has_front (cells_started fs) x y h)))
                  (cases x r means puts y);
              apart = apart.0;
              waiting = fronts.0;
              chained = front_chained (workbook_of b k) (cells_started fs) x (subst (Chained (workbook_of b k)) (cells_snoc fs f) u.chained);
            };
            grows = grows;
            falls =
                falls_here x grows fronts.1.there
                (let no : weight (stands new x) ≡ 0 = ap weight (here x r means puts) in let one : weight (stands es x) ≡ 1 = ap weight started in omega arith);
          }

      -- where the last started cell reads a started one, all are cycles
      pub close_cycle : (y : Cell) → IsUnderWay b k es fs → LastReads (workbook_of b k) (cells_started fs) y → stands es y ≡ Some Started →
          is_there b k.present.state y.0 y.1 ≡ true → ((x : Cell) → stands new x ≡ closing es (cells_started fs) x) → Advances b k es new []
      close_cycle y u last at there closed =
          let among : has_cell (cells_started fs) y ≡ true = u.started y at in
          let closed_at : (x : Cell) → has_cell (cells_started fs) x ≡ true → stands new x ≡ Some (Settled none) =
          λ x h. closed x ∙ ap (λ t. if t then Some (Settled none) else stands es x) h in
          let stays : (x : Cell) → has_cell (cells_started fs) x ≡ false → stands new x ≡ stands es x =
          λ x h. closed x ∙ ap (λ t. if t then Some (Settled none) else stands es x) h in
          let grows : Grows es new = record {
            later = λ x.
                ⊎_elim
                (λ h. subst (λ s. Later s (stands new x)) (sym (u.starts x h)) (subst IsSome (sym (closed_at x h)) (search rules)))
                (λ h. subst (Later (stands es x)) (sym (stays x h)) (later_itself (stands es x)))
                (true_or_false (has_cell (cells_started fs) x));
          } in record {
            under_way = record {
              results = λ x r e.
                  ⊎_elim
                  (λ h. same_result (stands new x) none r (closed_at x h) e
                  ∙ sym (chains_are_cycles (workbook_of b k) (cells_started fs) y u.chained last among x h))
                  (λ h. u.results x r (sym (stays x h) ∙ e))
                  (true_or_false (has_cell (cells_started fs) x));
              started = λ x e.
                  ⊎_elim
                  (λ h. absurd (not_both (stands new x) none e (closed_at x h)))
                  (λ h. let i = u.started x (sym (stays x h) ∙ e) in let bad : true ≡ false = sym i ∙ h in cc)
                  (true_or_false (has_cell (cells_started fs) x));
              starts = λ x h. cc;
              apart = tt;
              waiting = tt;
              chained = tt;
            };
            grows = grows;
            falls =
                falls_here y grows there
                (let no : weight (stands new y) ≡ 0 = ap weight (closed_at y among) in let one : weight (stands es y) ≡ 1 = ap weight at in omega arith);
          }

    -- a cell that lacked a result has one
    pub settled_one : (x : Cell) → IsUnderWay b k new [] → Grows es new → Lacks b k es x → is_lacking (found_of b k new x.0 x.1) ≡ false →
        Advances b k es new []
    settled_one x u grows lacked found =
        let there = lacking_there (stands es x) (is_there b k.present.state x.0 x.1) lacked in
        let some = lacking_weight (stands es x) (is_there b k.present.state x.0 x.1) lacked in
        let no = found_weight (stands new x) (is_there b k.present.state x.0 x.1) there found in
        record { under_way = u; grows = grows; falls = falls_here x grows there (omega arith) }

    -- more results after that
    pub advanced : (mid : Entries) → Advances b k es mid [] → IsUnderWay b k new [] → Grows mid new → Advances b k es new []
    advanced mid a u grows =
        let less = left_less mid new grows (formula_cells (workbook_of b k)) in
        let fell = a.falls in
        record { under_way = u; grows = grows_on es mid new a.grows grows; falls = omega arith }

-- at first no cell is started
pub nothing_started : (b : Contents) (k : Stored) (es : Entries) → es ≡ [] → IsUnderWay b k es []
nothing_started b k es e = subst (λ xs. IsUnderWay b k xs []) (sym e) none_yet
  where
    none_yet : IsUnderWay b k [] []
    none_yet = record { results = λ x r at. cc; started = λ x at. cc; starts = λ x h. cc; apart = tt; waiting = tt; chained = tt }
