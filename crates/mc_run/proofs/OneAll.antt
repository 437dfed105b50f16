-- A document whose pieces are lowered has one text at most. It is refused for one reason at most, and then it has none.
use Rattle.std.proofs.Common.{◌≡◌, ◌⊎◌, inl, inr, ℕ, ◌≤◌, List, length, Option, sym, ◌∙◌, ap, subst, arith}
use Rattle.all_writer.specs.AllText.{all_text}
use Rattle.doc_flows.specs.Documents.{RefusesDocument}
use Rattle.doc_flows.specs.Flags.{HasFlags}
use Rattle.doc_flows.specs.Laws.{OneAnswer, OneFlagging}
use Rattle.flow_list.specs.Data.{FlowsData}
use Rattle.mc_base.specs.declared.refusal.Refusal.{Refusal}
use Rattle.mc_base.specs.declared.refusal.Refusal.TheVariants.{NoMemory}
use Rattle.page_views.specs.Shown.{text_limit}
use Rattle.piece_data.specs.Lowering.{Flags}
use Rattle.mc_run.specs.AllResult.{SaysFlagged, IsAllResult, HasLongAll, RefusesAll}

-- a document has one answer, and its flows one list of flags
abbrev pub Laws : Type 0
Laws = OneAnswer × OneFlagging

module _ (law : Laws) (document sheet metrics : List ℕ) (width : ℕ) (height : Option ℕ) where
  text_same : (c d : FlowsData) (a b : Flags) → SaysFlagged document sheet metrics width height c a
      → SaysFlagged document sheet metrics width height d b → all_text c a ≡ all_text d b
  text_same c d a b h k =
      let same : c ≡ d = law.0.flows document sheet metrics width height c d h.said k.said in
      let flags : a ≡ b = law.1.flags document sheet metrics d a b
      (subst (λ e. HasFlags document sheet metrics e a) same h.flagged) k.flagged in
      ap (λ e. all_text e a) same ∙ ap (λ f. all_text d f) flags

  short_or_long : (text : List ℕ) (refusal : Refusal) → IsAllResult document sheet metrics width height text
      → HasLongAll document sheet metrics width height refusal → ⊥
  short_or_long text refusal (d, flags, says, is, short) (e, more, also, long) =
      let over = long.0 in
      let same = is ∙ text_same d e flags more says also in
      let within : length (all_text e more) ≤ text_limit = subst (λ t. length t ≤ text_limit) same short in
      omega (arith, over, within)

  pub one_of_all : (a b : Refusal) → RefusesAll document sheet metrics width height a
      → RefusesAll document sheet metrics width height b → a ≡ b
  one_of_all a b (inl h) (inl k) = law.0.reason document sheet metrics width height a b h k
  one_of_all a b (inl h) (inr (d, flags, says, long)) =
      absurd (law.0.either document sheet metrics width height d a says.said h)
  one_of_all a b (inr (d, flags, says, long)) (inl k) =
      absurd (law.0.either document sheet metrics width height d b says.said k)
  one_of_all a b (inr (d, flags, says, long)) (inr (e, more, also, other)) = long.1 ∙ sym other.1

  pub all_or_refusal : (text : List ℕ) (refusal : Refusal) → IsAllResult document sheet metrics width height text
      → RefusesAll document sheet metrics width height refusal → ⊥
  all_or_refusal text refusal (d, flags, says, is, short) (inl k) =
      law.0.either document sheet metrics width height d refusal says.said k
  all_or_refusal text refusal h (inr k) = short_or_long text refusal h k

pub refused_all : (document sheet metrics : List ℕ) (width : ℕ) (height : Option ℕ) (e : Refusal)
    → (e ≡ NoMemory) ⊎ RefusesDocument document sheet metrics width height e
    → (e ≡ NoMemory) ⊎ RefusesAll document sheet metrics width height e
refused_all document sheet metrics width height e (inl none) = inl none
refused_all document sheet metrics width height e (inr refused) = inr (inl refused)
