-- What was read of the first style attributes.
use Rattle.std.proofs.Common.{◌≡◌, ◌<◌, ℕ, zero, suc, List, [], ◌∷◌, map, length, take, Option, Some, None, Ok, Err, Result}
use Rattle.std.proofs.Common.{inl, inr, ◌+◌, ◌++◌, get_or, refl, sym, ap, subst, ◌∙◌, arith}
use Rattle.std.specs.Prelude.{slice_get, IsOk}
use Rattle.std.specs.Option.{option_map}
use Rattle.std.proofs.lemmas.List.{length-map, map-append, take_more}
use Rattle.css_syntax.specs.Answers.{IsUnlessMemory}
use Rattle.std.proofs.lemmas.Option.{slice_get-map}
use Rattle.mc_base.specs.declared.refusal.Refusal.{Refusal}
use Rattle.html_grammar.specs.declared.dom.Dom.{Dom}
use Rattle.html_grammar.specs.declared.dom.DomNode.{DomNode}
use Rattle.css_winner.specs.declared.setting.Setting.{Setting}
use Rattle.css_winner.specs.Own.{own_settings}
use Rattle.css_data.specs.declared.rule.Sheet.{Sheet}
use Rattle.css_select.proofs.Parents.{element_within}
use Rattle.css_cascade.specs.declared.styles.NodeStyle.{NodeStyle}
use Rattle.css_cascade.specs.Entries.{entry_at}
use Rattle.css_cascade.specs.Attributes.{AllAreRead, IsFirstFault, read_as, settings_or_none, node_settings}
use Rattle.css_cascade.specs.Cascaded.{AreOwn, HasEntry, HasEntries, IsCascaded}

get_front : {X : Type 0} (xs : List X) (n k : ℕ) → k < n → slice_get (take n xs) k ≡ slice_get xs k
get_front [] zero k h = refl
get_front [] (suc n) k h = refl
get_front (x ∷ xs) zero k h = absurd (omega arith)
get_front (x ∷ xs) (suc n) zero h = refl
get_front (x ∷ xs) (suc n) (suc k) h = get_front xs n k (omega arith)

-- these were read of these nodes
abbrev pub AreRead : List (List Setting) → List DomNode → Type 0
AreRead own nodes = map read_as own ≡ map own_settings nodes

pub all_read : (own : List (List Setting)) (nodes : List DomNode) → AreRead own nodes → AllAreRead nodes
all_read [] [] e n node h = absurd cc
all_read [] (x ∷ nodes) e n node h = absurd cc
all_read (s ∷ own) [] e n node h = absurd cc
all_read (s ∷ own) (x ∷ nodes) e zero node h =
    let first : Ok s ≡ own_settings x = cc in
    let same : x ≡ node = cc in
    subst (λ (y : DomNode). IsOk (own_settings y)) same (subst IsOk first refl)
all_read (s ∷ own) (x ∷ nodes) e (suc n) node h = all_read own nodes (cc) n node h

pub all_own_are : (dom : Dom) (own : List (List Setting)) → AreRead own dom.nodes → AreOwn dom own
all_own_are dom own e =
    record {
      count = sym (length-map own read_as) ∙ (ap length e ∙ length-map dom.nodes own_settings);
      each = λ n settings at. at_node (slice_get dom.nodes n) settings (
          sym (ap (option_map read_as) at)
          ∙ (sym (slice_get-map read_as own n)
          ∙ (ap (λ xs. slice_get xs n) e ∙ slice_get-map own_settings dom.nodes n))
          );
    }
  where
    settled : (settings : List Setting) (r : Result (List Setting) Refusal) → Ok settings ≡ r → settings ≡ settings_or_none r
    settled settings r e = ap settings_or_none e

    at_node : (o : Option DomNode) (settings : List Setting) → Some (read_as settings) ≡ option_map own_settings o
        → settings ≡ node_settings o
    at_node None settings e = absurd cc
    at_node (Some node) settings e = let is : Ok settings ≡ own_settings node = cc in settled settings (own_settings node) is

-- all is read, and every element has its entry
pub cascaded_is : (sheets : List Sheet) (dom : Dom) (own : List (List Setting)) → AreRead own dom.nodes
    → (settings : List (List Setting)) → settings ≡ own
    → (nodes : List (Option NodeStyle)) → HasEntries sheets dom (length settings) nodes → (styles : List (Option NodeStyle))
    → styles ≡ nodes → IsCascaded sheets dom styles
cascaded_is sheets dom own read settings same nodes made styles is =
    let count = (all_own_are dom own read).count in
    let long = ap length same ∙ count in
    record {
      read = all_read own dom.nodes read;
      size = ap length is ∙ made.size ∙ long;
      others = λ n outside. ap (λ s. entry_at s n) is ∙ made.others n outside;
      each = λ n element.
          let below = element_within dom n element in
          subst (λ s. HasEntry sheets dom s n) (sym is) (made.each n (omega (arith, below, long)) element);
    }

-- what is before the fault was read
pub fault_is_first : (own : List (List Setting)) (nodes : List DomNode) (n : ℕ) (node : DomNode) (refusal : Refusal)
    → AreRead own (take n nodes) → slice_get nodes n ≡ Some node → own_settings node ≡ Err refusal → IsFirstFault nodes refusal
fault_is_first own nodes n node refusal read at is =
    record {
      at = n;
      node = node;
      stands = at;
      refused = is;
      first = λ k other below there. all_read own (take n nodes) read k other (get_front nodes n k below ∙ there);
    }

-- an answer that is no want of memory is what is read
pub was_read : (settings : List Setting) (r : Result (List Setting) Refusal) → IsUnlessMemory (Ok settings) r → r ≡ Ok settings
was_read settings r (inl e) = absurd cc
was_read settings r (inr e) = sym e

pub read_more : (own : List (List Setting)) (nodes : List DomNode) (n : ℕ) (node : DomNode) (settings : List Setting)
    (new : List (List Setting)) → n < length nodes → node ≡ get_or nodes n node → AreRead own (take n nodes)
    → own_settings node ≡ Ok settings → new ≡ own ++ settings ∷ [] → AreRead new (take (n + 1) nodes)
read_more own nodes n node settings new below at so_far is made =
    ap (map read_as) made ∙ (map-append read_as own (settings ∷ [])
    ∙ ((λ i. so_far i ++ is' i ∷ []) ∙ (sym (map-append own_settings (take n nodes) (node ∷ []))
    ∙ ap (map own_settings) (sym (take_more nodes n node below ∙ ap (λ x. take n nodes ++ x ∷ []) (sym at))))))
  where
    is' : read_as settings ≡ own_settings node
    is' = sym is
