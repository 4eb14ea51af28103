-- What is written over the front of a slice: an element of it, a store into it, and one element more.
-- Assumes nothing.
use mathlib.Core.Path.{◌≡◌, refl, sym, ap, ap₂, subst, ◌∙◌}
use Prim.Native.Nat.{ℕ, suc, ◌+◌, ◌≤◌, ◌<◌}
use mathlib.Core.List.{List, [], ◌∷◌, ◌++◌, map, append_assoc, map-append}
use native.Mathlib.Omega.{arith}
use lib.ListN.{length, get_or, set, take, drop, length-map, length-append, length-set, length-drop, get_or-append}
use lib.Seq.{set-append_left, set-append_seam, append_snoc, take_at, drop_at, drop-drop, drop-cons, take-suc, length-take-le}
use Rattle.semantics.specs.Run.{over}

module _ {A : Type 0} where
  pub over_none : (old : List A) → over [] old ≡ old
  unfolding over
  over_none old = refl

  -- what is written over what was written there before
  pub over-over : (w v old : List A) → length v ≡ length w → over w (over v old) ≡ over w old
  unfolding over
  over-over w v old e = ap (◌++◌ w) (drop_at v (drop (length v) old) (length w) e ∙ ap (λ n. drop n old) e)

  pub over-length : (w old : List A) → length w ≤ length old → length (over w old) ≡ length old
  unfolding over
  over-length w old h = length-append w (drop (length w) old) ∙ omega (arith, length-drop (length w) old)

  pub over-get : (w old : List A) (i : ℕ) (d : A) → i < length w → get_or (over w old) i d ≡ get_or w i d
  unfolding over
  over-get w old i d h = get_or-append w (drop (length w) old) d i h

  pub over-set : (w old : List A) (i : ℕ) (a : A) → i < length w → set (over w old) i a ≡ over (set w i a) old
  unfolding over
  over-set w old i a h =
      set-append_left w (drop (length w) old) i a h ∙ ap (λ n. set w i a ++ drop n old) (sym (length-set w i a))

  -- the element after the i that are written
  pub over-next : (w old : List A) (i : ℕ) (a : A) → length w ≡ i → i < length old → set (over w old) i a ≡ over (w ++ (a ∷ [])) old
  unfolding over
  over-next w old i a long h =
      let one_more : suc (length w) ≡ length (w ++ (a ∷ [])) = omega (arith, length-append w (a ∷ [])) in
      let front : drop (length w) old ≡ get_or old (length w) a ∷ drop (suc (length w)) old = drop-cons old (length w) a (omega arith) in
      subst (λ j. set (w ++ drop (length w) old) j a ≡ w ++ (a ∷ []) ++ drop (length (w ++ (a ∷ []))) old) long
      (ap (λ l. set (w ++ l) (length w) a) front
      ∙ set-append_seam w (get_or old (length w) a) (drop (suc (length w)) old) a
      ∙ sym (append_snoc w a (drop (suc (length w)) old))
      ∙ ap (λ n. w ++ (a ∷ []) ++ drop n old) one_more)

  -- what is written behind the i elements that are written
  pub over-more : (w v old : List A) (i : ℕ) → length w ≡ i → take i (over w old) ++ over v (drop i (over w old)) ≡ over (w ++ v) old
  unfolding over
  over-more w v old i long =
      let behind = drop_at w (drop (length w) old) i long in
      let further = drop-drop (length v) (length w) old ∙ ap (λ n. drop n old) (sym (length-append w v)) in
      ap₂ (λ a b. a ++ (v ++ drop (length v) b)) (take_at w (drop (length w) old) i long) behind
      ∙ sym (append_assoc w v (drop (length v) (drop (length w) old)))
      ∙ ap (◌++◌ (w ++ v)) further

-- a list mapped over the front, one element at a time
pub map_next : {A B : Type 0} (f : A → B) (l : List A) (d : A) (i : ℕ) (old now : List B) {b : B} → i < length l → length l ≤ length old
    → now ≡ over (map f (take i l)) old → b ≡ f (get_or l i d) → set now i b ≡ over (map f (take (i + 1) l)) old
map_next f l d i old now less fits is next =
    let long : length (map f (take i l)) ≡ i = length-map (take i l) f ∙ length-take-le i l (omega arith) in
    let one : suc i ≡ i + 1 = omega arith in
    ap₂ (λ m b. set m i b) is next
    ∙ over-next (map f (take i l)) old i (f (get_or l i d)) long (omega arith)
    ∙ ap (λ m. over m old) (sym (map-append f (take i l) (get_or l i d ∷ [])) ∙ ap (map f) (sym (take-suc l i d less)) ∙ ap (λ n. map f (take n l)) one)
