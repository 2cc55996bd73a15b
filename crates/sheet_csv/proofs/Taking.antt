-- What a reader of a slice does in one step.
use Rattle.std.proofs.Common.{◌≡◌, ◌<◌, ◌+◌, ℕ, suc, zero, List, [], ◌∷◌, length, Bor, true, false, Option, Some, None, refl, sym, ap, subst, arith, ◌∙◌}
use Rattle.std.specs.Prelude.{unwrap_or}
use Rattle.csv.specs.Machine.{Read, ends_at_end, next_record}
use Rattle.csv.specs.Reading.{Reached, ReadRecord, default_config, names_headers, owned_rows_left, owned_rows_reader, reader_config, reader_headers, reader_state, reader_trim, records_from, records_next, source_of, took_first}
use Rattle.csv.specs.declared.parser.State.TheVariants as st
use Rattle.csv.specs.declared.reader.Trim.TheVariants as trim
use Rattle.std.proofs.Common.{inl, inr}
use Rattle.csv.specs.Records.{Row, fields_of}
use Rattle.csv.specs.declared.parser.State.{State}
use Rattle.csv.specs.declared.reader.Reader.{Reader}
use Rattle.csv.proofs.ReadFacts.{rows-more}
use Rattle.sheet_csv.specs.Readers.{IsReading, Records, Takes, known_of, left_of, reader_of, records_of, state_of}
use Rattle.sheet_csv.specs.Rows.{Fields}
use Rattle.sheet_csv.proofs.Lengths.{extra, shrinks}

-- what a reader of a slice has left
abbrev pub known : Reader (Bor (List ℕ)) → Option (List ℕ)
known a = source_of (λ (s : Bor (List ℕ)). Some s.now) a

same_read : (x : Option Read) (f : Fields) (s : State) (z : List ℕ) (p : Read) → x ≡ Some p → f ≡ p.0 → p.1 ≡ s → p.2 ≡ z → x ≡ Some (f, s, z)
same_read x f s z p e fs st rest = e ∙ ap Some (tuple p f s z (sym fs) st rest)
  where
    tuple : (p : Read) (f : Fields) (s : State) (z : List ℕ) → p.0 ≡ f → p.1 ≡ s → p.2 ≡ z → p ≡ (f, s, z)
    tuple p f s z a b c = rw (← a, ← b, ← c) refl

-- a read that found a record
pub record Took (a b : Reader (Bor (List ℕ))) (f : Fields) (y : List ℕ) : Type 0 where
  pub left : List ℕ
  pub known_left : known b ≡ Some left
  pub read : next_record default_config (reader_state a) [] [] y ≡ Some (f, reader_state b, left)

pub took : (a b : Reader (Bor (List ℕ))) (f : Fields) (y : List ℕ) → reader_config a ≡ default_config → known a ≡ Some y
    → ReadRecord (λ (s : Bor (List ℕ)). Some s.now) a b true f → Took a b f y
unfolding Reached
took a b f y config knows r =
    let m = rows-more (λ (s : Bor (List ℕ)). Some s.now) a b f default_config (reader_state a) y y [] config knows (refl, refl) r in
    record {
      left = m.0;
      known_left = m.1;
      read = same_read (next_record default_config (reader_state a) [] [] y) f (reader_state b) m.0 m.2.0 m.2.1 m.2.2 m.2.3.0 m.2.3.1;
    }

known_is : (o : Option (List ℕ)) (z : List ℕ) → o ≡ Some z → unwrap_or o [] ≡ z
known_is o z e = rw e refl

-- a step that took a record
pub takes : (before after : Records) (row : Row) → IsReading before → ReadRecord (λ (s : Bor (List ℕ)). Some s.now) (reader_of before) (reader_of after) true (fields_of row)
    → took_first (reader_of after) ≡ true → 0 < owned_rows_left after → Takes before after row
takes before after row r read first turns =
    let t = took (reader_of before) (reader_of after) (fields_of row) (left_of before) r.config r.known read in
    let left : left_of after ≡ t.left = known_is (known_of after) t.left t.known_left in
    let next : next_record default_config (state_of before) [] [] (left_of before) ≡ Some (fields_of row, state_of after, left_of after) = rw left t.read in
    let small = shrinks (state_of before) [] [] (left_of before) (fields_of row, state_of after, left_of after) next in
    let between = r.between in
    let shorter : length (left_of after) < length (left_of before) + extra (ends_at_end (state_of before)) = small.shorter in
    record {
      reading = record {
        turns = turns;
        trim = read.3 ∙ r.trim;
        ready = inl first;
        config = read.2 ∙ r.config;
        between = small.between;
        known = t.known_left ∙ ap Some (sym left);
      };
      shorter = let plain : length (left_of after) < length (left_of before) + 0 = subst (λ b. length (left_of after) < length (left_of before) + extra b) between shorter in omega arith;
      few = let few = small.few in omega arith;
      took = next;
    }

-- a reader that begins
pub record Fresh (r : Records) (text : List ℕ) : Type 0 where
  pub reading : IsReading r
  pub state : state_of r ≡ st.StartRecord
  pub left : left_of r ≡ text

pub fresh : (r : Records) (a : Reader (Bor (List ℕ))) (text : List ℕ) → owned_rows_reader r ≡ a → 0 < owned_rows_left r → reader_trim a ≡ trim.None → reader_config a ≡ default_config
    → names_headers a ≡ false → reader_headers a ≡ None → reader_state a ≡ st.StartRecord → known a ≡ Some text → Fresh r text
fresh r a text same turns plain config unnamed none state knows =
    let kn : known_of r ≡ Some text = ap known same ∙ knows in
    let left : left_of r ≡ text = known_is (known_of r) text kn in
    let at : state_of r ≡ st.StartRecord = ap (λ x. reader_state x) same ∙ state in
    record {
      reading = record {
        turns = turns;
        trim = ap (λ x. reader_trim x) same ∙ plain;
        ready = inr (inr (ap (λ x. names_headers x) same ∙ unnamed, ap (λ x. reader_headers x) same ∙ none));
        config = ap (λ x. reader_config x) same ∙ config;
        between = rw at refl;
        known = kn ∙ ap Some (sym left);
      };
      state = at;
      left = left;
    }

-- what the records of a reader are, behind the one that it took
pub more_records : (before after : Records) (row : Row) (n : ℕ) → Takes before after row → length (left_of before) < n
    → (m : ℕ) × (length (left_of after) < m) × (records_of n before ≡ fields_of row ∷ records_of m after)
unfolding records_from
more_records before after row zero t long = absurd (omega arith)
more_records before after row (suc n) t long =
    let shorter = t.shorter in
    (n, omega arith, ap (records_next (records_from default_config n)) t.took)

-- a reader that finds no record has none left
pub no_records : (r : Records) (n : ℕ) → next_record default_config (state_of r) [] [] (left_of r) ≡ None → records_of n r ≡ []
unfolding records_from
no_records r zero e = refl
no_records r (suc n) e = ap (records_next (records_from default_config n)) e
