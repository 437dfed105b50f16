-- The attribute `class`.
use Rattle.std.proofs.Common.{◌≡◌, ℕ, zero, suc, ◌<◌, List, [], ◌∷◌, ◌++◌, length, Bool, true, false, ◌||◌, None, Some, refl, sym}
use Rattle.std.proofs.Common.{ap}
use Rattle.std.proofs.Common.{◌∙◌, arith, set, get_or}
use Rattle.std.proofs.Math.Seq.{set-append_seam, get_or-append_seam}
use Rattle.std.specs.List.{list_any, position}
use Rattle.html_grammar.specs.declared.dom.Attribute.{Attribute}
use Rattle.html_grammar.specs.declared.dom.DomNode.{DomNode}
use Rattle.std.specs.Prelude.{codes}
use Rattle.edit_script.specs.Edited.{with_class}
use Rattle.dom_edits.specs.Nodes.{is_class, node_with_class, classed_at}
use Rattle.dom_edits.proofs.Positions.{Split, none, at, split, position_front, position_none}

abbrev valued : List ℕ → Attribute → Attribute
valued value a = record { name = a.name; value = value; offset = a.offset }

in_place : (o : ℕ) (value : List ℕ) (pre : List Attribute) (a : Attribute) (rest : List Attribute) → list_any is_class pre ≡ false
    → is_class a ≡ true → with_class o value (pre ++ a ∷ rest) ≡ pre ++ valued value a ∷ rest
in_place o value [] a rest miss hit = rw hit refl
in_place o value (b ∷ pre) a rest miss hit = by_test (is_class b) refl miss (in_place o value pre a rest)
  where
    by_test : (t : Bool) → is_class b ≡ t → (t || list_any is_class pre) ≡ false
        → (list_any is_class pre ≡ false → is_class a ≡ true
        → with_class o value (pre ++ a ∷ rest) ≡ pre ++ valued value a ∷ rest)
        → with_class o value (b ∷ (pre ++ a ∷ rest)) ≡ b ∷ (pre ++ valued value a ∷ rest)
    by_test true is e below = absurd (let n : true ≡ false = e in cc)
    by_test false is e below = rw (is, below e hit) refl

at_end : (o : ℕ) (value : List ℕ) (xs : List Attribute) → list_any is_class xs ≡ false
    → with_class o value xs ≡ xs ++ record { name = codes "class"; value = value; offset = o } ∷ []
at_end o value [] miss = refl
at_end o value (b ∷ xs) miss = by_test (is_class b) refl miss (at_end o value xs)
  where
    by_test : (t : Bool) → is_class b ≡ t → (t || list_any is_class xs) ≡ false
        → (list_any is_class xs ≡ false → with_class o value xs ≡ xs
        ++ record { name = codes "class"; value = value; offset = o } ∷ [])
        → with_class o value (b ∷ xs) ≡ b ∷ (xs ++ record { name = codes "class"; value = value; offset = o } ∷ [])
    by_test true is e below = absurd (let n : true ≡ false = e in cc)
    by_test false is e below = rw (is, below e) refl

pub class_put : (o : ℕ) (value : List ℕ) (xs : List Attribute) (i : ℕ) (d : Attribute) → Some i ≡ position is_class xs
    → set xs i (valued value (get_or xs i d)) ≡ with_class o value xs
class_put o value xs i d is = by_split (split is_class xs)
  where
    by_split : Split is_class xs → set xs i (valued value (get_or xs i d)) ≡ with_class o value xs
    by_split (none miss) = absurd (let e = position_none is_class xs miss in cc)
    by_split (at pre a rest all miss hit) =
        let e : Some i ≡ Some (length pre) = is ∙ rw (← all) at (position_front is_class pre a rest miss hit) in
        let place : i ≡ length pre = cc in
        rw (all, place, get_or-append_seam pre a rest d, set-append_seam pre a rest (valued value a)) (sym
        (in_place o value pre a rest miss hit))

pub class_added : (o : ℕ) (value : List ℕ) (xs : List Attribute) → None ≡ position is_class xs
    → xs ++ record { name = codes "class"; value = value; offset = o } ∷ [] ≡ with_class o value xs
class_added o value xs is = by_split (split is_class xs)
  where
    by_split : Split is_class xs → xs ++ record { name = codes "class"; value = value; offset = o } ∷ [] ≡ with_class o value xs
    by_split (none miss) = sym (at_end o value xs miss)
    by_split (at pre a rest all miss hit) =
        absurd (let e : None ≡ Some (length pre) = is ∙ rw (← all) at (position_front is_class pre a rest miss hit) in cc)

pub class_of_node : (value : List ℕ) (nodes : List DomNode) (i : ℕ) (d : DomNode) → i < length nodes
    → set nodes i (node_with_class value (get_or nodes i d)) ≡ classed_at i value nodes
class_of_node value [] i d lt = refl
class_of_node value (n ∷ nodes) zero d lt = refl
class_of_node value (n ∷ nodes) (suc i) d lt = ap (λ ns. n ∷ ns) (class_of_node value nodes i d (omega arith))
