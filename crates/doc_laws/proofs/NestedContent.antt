-- The content of a document is nested, and no spanner is left in it.
use Rattle.std.proofs.Common.{List, [], ◌∷◌, Bool, true, false, refl, sym, subst, inl, inr}
use Rattle.std.specs.Prelude.{reverse}
use Rattle.box_data.specs.declared.placed.Placed.{Placed}
use Rattle.box_data.specs.Content.{Content, done, opens, closes, leaf, holds, spanner}
use Rattle.box_data.specs.DocumentFlows.{opened_in}
use Rattle.doc_laws.specs.Nesting.{NoSpanner, IsNested}
use Rattle.doc_laws.specs.Laws.{ContentsAreNested}
use Rattle.doc_laws.proofs.Goes.{Goes, MayFill}
use Rattle.doc_laws.proofs.Made.{document_goes}

none_left : (fresh : Bool) (from to : List Placed) (c : Content) → Goes false fresh from to c → NoSpanner c
none_left fresh from to done h = tt
none_left fresh from to (opens p next) h = none_left true (p ∷ from) to next h
none_left fresh from to (closes p next) h = none_left false h.1 to next h.3
none_left fresh from to (leaf l next) h = none_left false from to next h
none_left fresh from to (holds i inside next) h = (
  none_left true (reverse (opened_in i)) h.0.0 inside h.0.1,
  none_left false from to next h.1,
)
none_left fresh from to (spanner inside next) h = absurd (let no = h.0 in cc)

nested : (fresh : Bool) (from to : List Placed) (c : Content) → Goes false fresh from to c → IsNested from to c
nested fresh from to done h = h.1
nested fresh from to (opens p next) h = nested true (p ∷ from) to next h
nested fresh from to (closes p next) h = (h.1, h.2, nested false h.1 to next h.3)
nested fresh from to (leaf l next) h = nested false from to next h
nested fresh from to (holds i inside next) h = (
  (h.0.0, nested true (reverse (opened_in i)) h.0.0 inside h.0.1),
  nested false from to next h.1,
)
nested fresh from to (spanner inside next) h = absurd (let no = h.0 in cc)

both : (c : Content) → MayFill false c → NoSpanner c × IsNested [] [] c
both c (inl same) = subst (λ (x : Content). NoSpanner x × IsNested [] [] x) (sym same) (tt, refl)
both c (inr f) = (none_left true [] [] c (f []), nested true [] [] c (f []))

pub contents_nested : ContentsAreNested
contents_nested styles lines width tree = both _ (document_goes styles lines width tree)
