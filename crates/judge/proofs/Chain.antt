-- The conditions of a call, one check after another.
-- Assumes nothing.
use Rattle.std.proofs.Common.{◌≡◌, ℕ, true, List, [], ◌∷◌, ◌++◌, map, length, drop, sym, ap, ◌∙◌, arith}
use lib.ListN.{length-map}
use Rattle.semantics.specs.declared.Refusal.{Refusal}
use Rattle.semantics.specs.Words.{Width, size_allowed}
use Rattle.semantics.specs.Refusals.{Condition, Call, at_first, first_met, slices_conditions, table_conditions, run_conditions, size_not_allowed, too_many, too_short, bad_cell, bad_operation, bad_entry}
use Rattle.semantics.proofs.Keys.{keys-table}
use Rattle.semantics.proofs.Booleans.{affirmed, passed}
use Rattle.semantics.proofs.Conditions.{none-met}
use Rattle.semantics.proofs.Words.{Packing}
use Rattle.judge.specs.declared.Reason.{Reason}
use Rattle.judge.specs.Judged.{number_of, place_of, keys_of, called, bad_word, bad_row, bad_name, repeated, cut_off}
use Rattle.judge.proofs.Found.{stops, goes}

abbrev none : Refusal
none = record { number = 0; place = 0 }

abbrev pub told : Reason → Refusal
told r = record { number = number_of r; place = place_of r }

module _ {A : Type 0} {W : Width} (P : Packing W) (number : A → ℕ) (cells : List A) (operations schedule : List ℕ) (answers log : ℕ) where
  abbrev call : Call
  call = called number cells operations schedule answers log

  abbrev all : Refusal
  all = first_met (run_conditions W call)

  abbrev slices : List Condition
  slices = slices_conditions call

  abbrev word : List Condition
  word = bad_word W (map number cells) ∷ []

  abbrev row : List Condition
  row = bad_row W operations ∷ []

  abbrev name : List Condition
  name = bad_name (length operations) schedule ∷ []

  abbrev same : List Condition
  same = repeated (keys_of W number cells) ∷ []

  abbrev cut : List Condition
  cut = cut_off (keys_of W number cells) ∷ []

  table : same ++ cut ≡ table_conditions W call
  table = ap (drop 1) (keys-table W P.empty-key call)

  parts : all ≡ first_met (slices ++ (word ++ (row ++ (name ++ (same ++ cut)))))
  unfolding run_conditions bad_cell bad_operation bad_entry
  parts = ap (λ (l : List Condition). first_met (slices ++ (word ++ (row ++ (name ++ l))))) (sym table)

  pub in-slices : (r : Reason) → told r ≡ first_met slices → told r ≡ all
  in-slices r e = stops r slices _ e ∙ sym parts

  module _ (a : none ≡ first_met slices) where
    after-slices : all ≡ first_met (word ++ (row ++ (name ++ (same ++ cut))))
    unfolding size_not_allowed too_many too_short
    after-slices = parts ∙ goes slices _ (omega arith) a

    pub sized : size_allowed (length cells) ≡ true
    unfolding size_not_allowed too_many too_short
    sized =
        let met = none-met slices (omega arith) (ap (λ (r : Refusal). r.number) (sym a)) in
        ap size_allowed (sym (length-map cells number)) ∙ passed _ (affirmed _ met.0)

    pub in-words : (r : Reason) → told r ≡ first_met word → told r ≡ all
    in-words r e = stops r word _ e ∙ sym after-slices

    module _ (b : none ≡ first_met word) where
      after-words : all ≡ first_met (row ++ (name ++ (same ++ cut)))
      unfolding at_first
      after-words = after-slices ∙ goes word _ (omega arith) b

      pub in-rows : (r : Reason) → told r ≡ first_met row → told r ≡ all
      in-rows r e = stops r row _ e ∙ sym after-words

      module _ (d : none ≡ first_met row) where
        after-rows : all ≡ first_met (name ++ (same ++ cut))
        unfolding at_first
        after-rows = after-words ∙ goes row _ (omega arith) d

        pub in-names : (r : Reason) → told r ≡ first_met name → told r ≡ all
        in-names r e = stops r name _ e ∙ sym after-rows

        module _ (e : none ≡ first_met name) where
          after-names : all ≡ first_met (same ++ cut)
          unfolding at_first
          after-names = after-rows ∙ goes name _ (omega arith) e

          pub in-same : (r : Reason) → told r ≡ first_met same → told r ≡ all
          in-same r f = stops r same _ f ∙ sym after-names

          pub in-cut : none ≡ first_met same → all ≡ first_met cut
          unfolding at_first
          in-cut f = after-names ∙ goes same _ (omega arith) f
