-- Things of a kind up to a closing brace: what is read stands there, and where it is refused the tokens before begin it.
use Rattle.std.proofs.Common.{◌≡◌, ℕ, zero, suc, List, [], ◌∷◌, true, false, Ok, refl, sym, subst, arith}
use Rattle.std.specs.Prelude.{Bool}
use Rattle.sheet_syntax_trees.specs.declared.token.Token.{Token}
use Rattle.sheet_syntax_trees.specs.Reading.{Answer}
use Rattle.sheet_define_reading.specs.declared.mark.Mark.{Mark}
use Rattle.sheet_define_reading.specs.declared.mark.Mark.TheVariants as mark
use Rattle.sheet_define_reading.specs.Marks.{mark_of, same_mark}
use Rattle.sheet_define_reading.specs.Reading as reading
use Rattle.sheet_define_reading.specs.Reading.{Bounds, Reader, Turn, after, expect, with_front, optional, mark_at}
use Rattle.sheet_define_reading.proofs.MarkLemmas.{spelled, same_is}
use Rattle.sheet_define_data.specs.Grammar.{IsSymbol}
use Rattle.sheet_define_refusals.proofs.Moving.{Moved}
use Rattle.sheet_define_refusals.proofs.Halting.{Sample, Behind, After, word}
use Rattle.sheet_define_refusals.proofs.Blocks.{many_nil, many_none, many_suc}
use Rattle.sheet_define_refusals.proofs.Meeting.{Meets, meets_ok, meets_none, meets_part, meets_as, meets_behind, meets_known, meets_front}

-- what is followed by a closing brace
pub record Braced (L : ℕ → List Token → List Token → Type 0) (m : ℕ) (xs ws : List Token) : Type 0 where
  pub brace : Token
  pub closes : IsSymbol "}" brace
  pub holds : L m xs (brace ∷ ws)

-- things E, lists of them L, and what is known of blocks in both
module _ (E L : ℕ → List Token → List Token → Type 0) (none : (m : ℕ) (ts : List Token) → L m ts ts) (more : (m : ℕ) (us vs ws : List Token) → E m us vs →
    L m vs ws → L m us ws) where
  close_sample : Sample (Braced L)
  close_sample = record {
    tokens = word mark.CloseBrace ∷ [];
    least = 0;
    whole = λ m some vs. record { brace = word mark.CloseBrace; closes = refl; holds = none m (word mark.CloseBrace ∷ vs) };
  }

  module _ (end : ℕ) (A : Type 0) (one : Token → List Token → Mark → Answer (A × List Token)) (B D : List Token → ℕ →
      Type 0) (first : (ts : List Token) (at : ℕ) → B ts at → D ts at)
      (later : (ts us : List Token) → Moved E ts us → (at : ℕ) → D us at → D ts at) (each : (t : Token) (ts : List Token) →
      Meets E (B (t ∷ ts)) end A (one t ts (mark_of t.kind)) (t ∷ ts)) where
    pub many_meets : (k : ℕ) (ts : List Token) → Meets (Braced L) (D ts) end (List A) (reading.many end one k ts) ts
    many_meets k [] =
        subst (λ r. Meets (Braced L) (D []) end (List A) r []) (sym (many_nil end k one)) (meets_none (Braced L) (D []) end (List A) [] end refl close_sample)
    many_meets zero (t ∷ ts) =
        subst (λ r. Meets (Braced L) (D (t ∷ ts)) end (List A) r (t ∷ ts)) (sym (many_none end one t ts))
        (meets_none (Braced L) (D (t ∷ ts)) end (List A) (t ∷ ts) t.start refl close_sample)
    many_meets (suc k) (t ∷ ts) = by (many_meets k) (same_mark (mark_of t.kind) mark.CloseBrace) refl where
      by : ((us : List Token) → Meets (Braced L) (D us) end (List A) (reading.many end one k us) us) → (b : Bool) →
          same_mark (mark_of t.kind) mark.CloseBrace ≡ b → Meets (Braced L) (D (t ∷ ts)) end (List A) (reading.many end one (suc k) (t ∷ ts)) (t ∷ ts)
      by again true is =
          subst (λ r. Meets (Braced L) (D (t ∷ ts)) end (List A) r (t ∷ ts)) (sym (many_suc end k one t ts true is))
          (meets_behind (Braced L) (D (t ∷ ts)) end (List A) t ts (Ok ([], ts)) (meets_ok (Behind t (Braced L)) (D (t ∷ ts)) end (List A) [] ts
          (λ m vs. record {
            brace = t;
            closes = spelled t.kind mark.CloseBrace (same_is (mark_of t.kind) mark.CloseBrace is) (omega arith);
            holds = none m (t ∷ vs);
          })))
      by again false is =
          let e = each t ts in
          subst (λ r. Meets (Braced L) (D (t ∷ ts)) end (List A) r (t ∷ ts)) (sym (many_suc end k one t ts false is))
          (meets_part (Braced L) E (D (t ∷ ts)) end A (List A) (t ∷ ts) (one t ts (mark_of t.kind)) (λ x. with_front (x.0 ∷ []) (reading.many end one k x.1))
          (record {
            tokens = word mark.CloseBrace ∷ [];
            least = 0;
            whole =
                λ m some vs ys x.
                record {
                  brace = word mark.CloseBrace;
                  closes = refl;
                  holds = more m ys (word mark.CloseBrace ∷ vs) (word mark.CloseBrace ∷ vs) x (none m (word mark.CloseBrace ∷ vs));
                };
          })
          (meets_known E (B (t ∷ ts)) (D (t ∷ ts)) end A (t ∷ ts) (one t ts (mark_of t.kind)) (λ at b. first (t ∷ ts) at b) e)
          (λ x us ex. meets_front (After E (Braced L)) (D (t ∷ ts)) end A (x ∷ []) (reading.many end one k us) us
          (meets_known (After E (Braced L)) (D us) (D (t ∷ ts)) end (List A) us (reading.many end one k us) (λ at c. later (t ∷ ts) us (e.moves x us ex) at c)
          (meets_as (After E (Braced L)) (Braced L) (D us) end (List A) us (reading.many end one k us) (again us)
          (λ m xs ws r ys y. record { brace = r.brace; closes = r.closes; holds = more m ys xs (r.brace ∷ ws) y r.holds })))))
