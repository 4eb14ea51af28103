-- Which marks may follow which, what holds of a record that is not turned away, mark by mark, and of an accepted file: it begins with a TB, has no
-- second one, and has as many cells as that says; and that run files can be scanned.
-- Assumes nothing.
use mathlib.Core.Path.{◌≡◌, refl, sym, ap, subst, ◌∙◌}
use Prim.Native.Nat.{ℕ, zero, suc, ◌+◌, ◌^◌, ◌≤◌, ◌<◌}
use mathlib.Core.Bool.{Bool, true, false, cond, not, ◌||◌, true≢false}
use mathlib.Core.List.{List, [], ◌∷◌, foldl}
use native.Mathlib.Decide.{dec_lt}
use native.Mathlib.Omega.{arith}
use lib.Dec.{eqb, eqb→eq, leb, ltb}
use lib.ListN.{length, length-set, length-replicate}
use lib.Pow.{pow_mono}
use borrow.Author.Tests.{le-ltb, ltb-false, leb-false, not-false}
use Rattle.semantics.specs.declared.Refusal.{Refusal}
use Rattle.semantics.specs.declared.Mark.{Mark}
use Rattle.semantics.specs.declared.Mark.TheVariants.{Table, Cell, Operation, Schedule, Unknown}
use Rattle.semantics.specs.declared.Position.{Position}
use Rattle.semantics.specs.Words.{size_allowed}
use Rattle.semantics.specs.Refusals.{most_operations, most_entries}
use Rattle.semantics.specs.Records.{fault_at, records_from, records, record_conditions}
use Rattle.semantics.specs.RunFile.{Layout, row, byte_at, pair_at, mark_at, may_follow, size_of, past, next_of, run_file, start}
use Rattle.semantics.specs.RunFile.{mark_cut, mark_wrong, body_cut, body_wrong, one_too_many, conditions_at}
use Rattle.semantics.specs.RunFile.{slice_too_short, file_too_long, file_conditions, reader_refusal, Contents, load, contents}
use Rattle.semantics.proofs.Booleans.{true-T, neither, affirmed}
use Rattle.semantics.proofs.Sizes.{allowed-bounds}
use Rattle.semantics.proofs.Conditions.{none-met, none-accepts, early-accepts, late-accepts}
use Rattle.semantics.proofs.Records.{judgement, from-here, Scannable}

-- an unknown mark may follow nothing, and a TB nothing but the start
pub follows_nothing : (before : ℕ) → may_follow before 0 ≡ false
unfolding may_follow
follows_nothing before = go (eqb before 0)
  where
    go : (b : Bool) → cond b false false ≡ false
    go true = refl
    go false = refl

pub follows-start : (before : ℕ) → may_follow before 1 ≡ true → before ≡ 0
unfolding may_follow
follows-start before = go (eqb before 0) refl
  where
    go : (b : Bool) → eqb before 0 ≡ b → cond b true false ≡ true → before ≡ 0
    go true e h = eqb→eq before 0 (true-T _ e)
    go false e h = absurd (true≢false (sym h))

-- what holds of a record that no condition turns away
pub record Sound (L : Layout) (file : List ℕ) (p : Position) (m : Mark) : Type 0 where
  pub follows : may_follow p.part (row L m).part ≡ true
  pub whole : p.at + size_of L file p.at m ≤ length file
  pub body : (row L m).is_wrong file p ≡ false
  pub room : (row L m).is_too_many file p ≡ false

pub sound : (L : Layout) (file : List ℕ) (p : Position) {m : Mark} → m ≡ mark_at L file p.at → fault_at (run_file L) file p ≡ 0 → Sound L file p m
unfolding fault_at conditions_at mark_cut mark_wrong body_cut body_wrong one_too_many
sound L file p {m} is e =
    let (cut, (order, (short, (wrong, (many, end))))) = none-met (conditions_at L file p) (omega arith) e in
    subst (Sound L file p) (sym is)
    (record {
      follows = not-false (may_follow p.part (row L (mark_at L file p.at)).part) order;
      whole = ltb-false (length file) (p.at + size_of L file p.at (mark_at L file p.at)) short;
      body = wrong;
      room = many;
    })

module _ (L : Layout) where
  comes-first : (m : Mark) → may_follow 0 (row L m).part ≡ true → m ≡ Table
  unfolding may_follow
  comes-first Table h = refl
  comes-first Cell h = absurd (true≢false (sym h))
  comes-first Operation h = absurd (true≢false (sym h))
  comes-first Schedule h = absurd (true≢false (sym h))
  comes-first Unknown h = absurd (true≢false (sym h))

  module _ (file : List ℕ) where
    -- behind a record that no condition turns away begins a part of the file that is not the first
    pub sound-next : (p : Position) → fault_at (run_file L) file p ≡ 0 → (next_of L file p).part ≡ 0 → ⊥
    unfolding next_of past
    sound-next p e z = true≢false (sym (sound L file p refl e).follows ∙ ap (may_follow p.part) z ∙ follows_nothing p.part)

    -- so there is no second TB: past the first record, an accepted file has as many cells
    load-keeps : (p : Position) (h : Contents) → (p.part ≡ 0 → ⊥) → fault_at (run_file L) file p ≡ 0 → length (load L file h p).cells ≡ length h.cells
    unfolding load
    load-keeps p h later e = go (mark_at L file p.at) (sound L file p refl e).follows
      where
        go : (m : Mark) → may_follow p.part (row L m).part ≡ true → length ((row L m).added file p.at h).cells ≡ length h.cells
        go Table f = absurd (later (follows-start p.part f))
        go Cell f = length-set h.cells _ _
        go Operation f = refl
        go Schedule f = refl
        go Unknown f = refl

    abbrev judged : List Position → Refusal
    judged ps = judgement (run_file L) file ps

    pub sound-first : (p : Position) (ps : List Position) → (judged (p ∷ ps)).number ≡ 0 → fault_at (run_file L) file p ≡ 0
    unfolding record_conditions fault_at
    sound-first p ps e = early-accepts (conditions_at L file p) (record_conditions (run_file L) file ps) e

    pub sound-rest : (p : Position) (ps : List Position) → (judged (p ∷ ps)).number ≡ 0 → (judged ps).number ≡ 0
    unfolding record_conditions conditions_at mark_cut mark_wrong body_cut body_wrong one_too_many
    sound-rest p ps e = late-accepts (conditions_at L file p) (record_conditions (run_file L) file ps) (omega arith) e

    loads-keep : (n : ℕ) (p : Position) (h : Contents) → (p.part ≡ 0 → ⊥) → (judged (records_from (run_file L) file n p)).number ≡ 0
        → length (foldl (load L file) h (records_from (run_file L) file n p)).cells ≡ length h.cells
    unfolding records_from
    loads-keep zero p h later = λ e. refl
    loads-keep (suc n) p h later =
        from-here (run_file L) file (λ ps. (judged ps).number ≡ 0 → length (foldl (load L file) h ps).cells ≡ length h.cells) n p
        (λ g e.
        let first = sound-first p _ e in
        loads-keep n (next_of L file p) (load L file h p) (sound-next p first) (sound-rest p _ e) ∙ load-keeps p h later first)
        (λ e. load-keeps p h later (sound-first p [] e))

    abbrev none : Contents
    none = record { cells = []; operations = []; schedule = [] }

    -- a file that the reader accepts has no faulty record, begins with a TB, and has the number of cells that it says
    pub records-accepted : (cells operations schedule : ℕ) → (reader_refusal L file cells operations schedule).number ≡ 0
        → (judged (records (run_file L) file start)).number ≡ 0
    unfolding reader_refusal file_conditions slice_too_short file_too_long
    records-accepted cells operations schedule =
        late-accepts (slice_too_short cells operations schedule ∷ file_too_long file ∷ []) (record_conditions (run_file L) file (records (run_file L) file start))
        (omega arith)

    first-loaded : fault_at (run_file L) file start ≡ 0 → length (load L file none start).cells ≡ 2 ^ byte_at file 2
    unfolding load
    first-loaded e =
        subst (λ m. length ((row L m).added file 0 none).cells ≡ 2 ^ byte_at file 2) (sym (comes-first (mark_at L file 0) (sound L file start refl e).follows))
        (length-replicate (2 ^ byte_at file 2) 0)

    module _ (accepted : (judged (records (run_file L) file start)).number ≡ 0) where
      pub begins-with-table : mark_at L file 0 ≡ Table
      unfolding records records_from
      begins-with-table = comes-first (mark_at L file 0) (sound L file start refl (sound-first start _ accepted)).follows

      pub cells-as-said : length (contents L file).cells ≡ 2 ^ byte_at file 2
      unfolding contents records
      cells-as-said =
          from-here (run_file L) file (λ ps. (judged ps).number ≡ 0 → length (foldl (load L file) none ps).cells ≡ 2 ^ byte_at file 2)
          (length file) start
          (λ g e.
          let first = sound-first start _ e in
          loads-keep (length file) (next_of L file start) (load L file none start) (sound-next start first) (sound-rest start _ e) ∙ first-loaded first)
          (λ e. first-loaded (sound-first start [] e)) accepted

-- every record has the two bytes of its mark, and one with a known mark a third
module _ (L : Layout) (file : List ℕ) (at : ℕ) where
  two_bytes : (m : Mark) → 2 ≤ size_of L file at m
  two_bytes Table = omega arith
  two_bytes Cell = omega arith
  two_bytes Operation = omega arith
  two_bytes Schedule = omega arith
  two_bytes Unknown = omega arith

  three-bytes : (m : Mark) → (m ≡ Unknown → ⊥) → 3 ≤ size_of L file at m
  three-bytes Table h = omega arith
  three-bytes Cell h = omega arith
  three-bytes Operation h = omega arith
  three-bytes Schedule h = omega arith
  three-bytes Unknown h = absurd (h refl)

module _ {L : Layout} {file : List ℕ} {p : Position} {m : Mark} (s : Sound L file p m) where
  -- what the tests of each mark say
  pub is_known : m ≡ Unknown → ⊥
  is_known e = true≢false (sym s.follows ∙ ap (λ n. may_follow p.part (row L n).part) e ∙ follows_nothing p.part)

  pub within : p.at + 3 ≤ length file
  within = omega (arith, three-bytes L file p.at m is_known, s.whole)

  pub whole_of : {M : Mark} → m ≡ M → p.at + size_of L file p.at M ≤ length file
  whole_of e = subst (λ n. p.at + size_of L file p.at n ≤ length file) e s.whole

  pub size_small : m ≡ Table → 2 ^ byte_at file (p.at + 2) ≤ 4096
  size_small e =
      let k = byte_at file (p.at + 2) in
      (allowed-bounds (2 ^ k) (affirmed (size_allowed (2 ^ k)) (ap (λ n. (row L n).is_wrong file p) (sym e) ∙ s.body))).1

  pub exponent : m ≡ Table → byte_at file (p.at + 2) < 13
  exponent e = elim (dec_lt (byte_at file (p.at + 2)) 13) [
    | yes h ↦ h
    | no h ↦ let large : 2 ^ 13 ≤ 2 ^ byte_at file (p.at + 2) = pow_mono {i = 13} (omega arith) in absurd (omega (arith, size_small e))
  ]

  pub inside : m ≡ Cell → pair_at file (p.at + 2) < p.size
  inside e =
      let n = pair_at file (p.at + 2) in
      let wrong = L.is_total_wrong file (p.at + 6) in
      let (number, key) = neither (wrong || ltb n p.lowest || leb p.size n) (eqb (pair_at file (p.at + 4)) 0) (ap (λ n. (row L n).is_wrong file p) (sym e) ∙ s.body) in
      leb-false p.size n (neither (wrong || ltb n p.lowest) (leb p.size n) number).1

  pub few : m ≡ Operation → p.operations < most_operations
  few e = leb-false most_operations p.operations (ap (λ n. (row L n).is_too_many file p) (sym e) ∙ s.room)

  pub short : m ≡ Schedule → p.entries + byte_at file (p.at + 2) ≤ most_entries
  short e = ltb-false most_entries (p.entries + byte_at file (p.at + 2)) (ap (λ n. (row L n).is_too_many file p) (sym e) ∙ s.room)

-- the position past a record is further on, so the records of a run file can be scanned
pub scannable : (L : Layout) (file : List ℕ) → Scannable (run_file L) file
unfolding conditions_at mark_cut mark_wrong body_cut body_wrong one_too_many next_of past
scannable L file =
    record {
      positive = λ p. omega arith;
      placed = λ p. (refl, (refl, (refl, (refl, (refl, tt)))));
      within = λ p e. omega (arith, within (sound L file p refl e));
      onward = λ p e. omega (arith, two_bytes L file p.at (mark_at L file p.at));
    }

-- and the other way: a record of which all that holds is not turned away
pub sound-accepted : (L : Layout) (file : List ℕ) (p : Position) {m : Mark} → m ≡ mark_at L file p.at → Sound L file p m → fault_at (run_file L) file p ≡ 0
unfolding fault_at conditions_at mark_cut mark_wrong body_cut body_wrong one_too_many
sound-accepted L file p is s =
    let t = subst (Sound L file p) is s in
    let m = mark_at L file p.at in
    none-accepts (conditions_at L file p) (
      le-ltb (length file) (p.at + 2) (omega (arith, t.whole, two_bytes L file p.at m)),
      (
        ap not t.follows,
        (le-ltb (length file) (p.at + size_of L file p.at m) t.whole, (t.body, (t.room, tt))),
      ),
    )
