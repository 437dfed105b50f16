-- The boxes of the list are those of the tree.
use Rattle.std.proofs.Common.{◌≡◌, ◌⊎◌, List, None, Some, Result, Ok, Err, IfOk, IfErr, ◌∙◌, ap, subst}
use Rattle.mc_base.specs.declared.refusal.Refusal.{Refusal}
use Rattle.mc_base.specs.declared.refusal.Refusal.TheVariants.{NoMemory as Memory}
use Rattle.box_data.specs.declared.placed.Placed.{Placed}
use Rattle.box_data.specs.Limits.{all_used_lengths, long}
use Rattle.box_places.specs.Passes.{all_placed}
use Rattle.box_places.proofs.Trees.{all_of_tree}
use Rattle.box_places.proofs.pass.places.Goals as goal

given : (r : Result (List Placed) Refusal) (made wanted : List Placed) → made ≡ wanted → IfOk r (λ places. places ≡ made)
    → IfOk r (λ places. long (all_used_lengths places) ≡ None)
    → IfOk r (λ places. (places ≡ wanted) × (long (all_used_lengths places) ≡ None))
given (Ok places) made wanted e h k = (h ∙ e, k)
given (Err refusal) made wanted e h k = tt

refused : (r : Result (List Placed) Refusal) (made wanted : List Placed) → made ≡ wanted
    → IfErr r (λ e. (e ≡ Memory) ⊎ (long (all_used_lengths made) ≡ Some e))
    → IfErr r (λ e. (e ≡ Memory) ⊎ (long (all_used_lengths wanted) ≡ Some e))
refused r made wanted e h =
    let P : List Placed → Type 0 =
    λ places. IfErr r (λ x. (x ≡ Memory) ⊎ (long (all_used_lengths places) ≡ Some x)) in subst P e h

pub returns-clause-places : goal.returns-clause-places
returns-clause-places c tree e =
    given c.all_places.result _ _ (ap (λ nodes. all_placed c.args.styles.now c.args.width nodes) (c.as_slice.ensures ∙ e)
    ∙ all_of_tree c.args.styles.now c.args.width tree)
    c.all_places.ensures.value c.all_places.ensures.lengths

pub returns-clause-refused : goal.returns-clause-refused
returns-clause-refused c tree e =
    refused c.all_places.result _ _
    (ap (λ nodes. all_placed c.args.styles.now c.args.width nodes) (c.as_slice.ensures ∙ e)
    ∙ all_of_tree c.args.styles.now c.args.width tree)
    c.all_places.ensures.refused
