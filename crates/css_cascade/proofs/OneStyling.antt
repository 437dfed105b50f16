-- A document has one style for each element: what wins is one claim, and a value is computed from what wins and earlier styles.
use Rattle.std.proofs.Common.{◌≡◌, ◌<◌, inl, inr, ℕ, zero, suc, Bool, true, false, List, [], ◌∷◌, ◌++◌, map, length}
use Rattle.std.proofs.Common.{Option, Some, None, refl, sym, ap, subst, ◌∙◌, arith, nat_eq}
use Rattle.std.specs.Prelude.{slice_get, option_and_then, if◌then◌else◌, MatchOption, IsSomeAnd, IsTrue}
use Rattle.std.specs.Option.{option_map}
use Rattle.std.proofs.lemmas.Bool.{cases_lt, eqb-false}
use Rattle.mc_base.specs.declared.refusal.ConstructName.{ConstructName}
use Rattle.html_grammar.specs.declared.dom.Dom.{Dom}
use Rattle.html_grammar.specs.declared.dom.DomNode.{DomNode}
use Rattle.html_grammar.specs.Whole.{is_element}
use Rattle.css_data.specs.declared.rule.Sheet.{Sheet}
use Rattle.css_values.specs.declared.declared.Property.{Property}
use Rattle.css_values.specs.declared.declared.Property.TheVariants as own
use Rattle.css_values.specs.declared.declared.Value.{Value}
use Rattle.css_values.specs.declared.target.Target.{Target}
use Rattle.css_values.specs.declared.target.Target.TheVariants.{Laid, Unlaid}
use Rattle.css_values.specs.Names.{properties, barred_properties}
use Rattle.css_values.specs.Targets.{target_place}
use Rattle.css_values.proofs.KnownPlaces.{places_known}
use Rattle.css_select.specs.Places.{IsElementAt, ParentsAreEarlier, parent_at}
use Rattle.css_computed.specs.declared.style.Computed.{Computed}
use Rattle.css_computed.specs.declared.style.Style.{Style}
use Rattle.css_computed.specs.declared.length.FontSizes.{FontSizes}
use Rattle.css_computed.specs.Styles.{style_by}
use Rattle.css_computed.specs.Winners.{winner}
use Rattle.css_computed.specs.Computing.{computed_value, value_at, with_widths, inner_sizes, outer_sizes, length_or, medium}
use Rattle.css_winner.specs.declared.setting.Setting.{Setting}
use Rattle.css_winner.specs.declared.setting.Given.TheVariants as given
use Rattle.css_winner.specs.Applying.{Claim, Wins}
use Rattle.css_winner.specs.Rules.{all_sheets}
use Rattle.css_winner.proofs.LawLemmas.{one_winner}
use Rattle.css_cascade.specs.declared.styles.NodeStyle.{NodeStyle}
use Rattle.css_cascade.specs.Entries.{entry_at, style_at}
use Rattle.css_cascade.specs.Attributes.{own_at}
use Rattle.css_cascade.specs.Won.{won_value, given_refusal}
use Rattle.css_cascade.specs.Cascaded.{parent_style, root_size, IsWonValue, Refuses, IsFirstRefused, NoneRefused, HasEntry, IsCascaded}
use Rattle.css_cascade.specs.Laws.{OneStyling}

-- ---- what wins

one_claim : (sheets : List Sheet) (dom : Dom) (n : ℕ) (own : List Setting) (target : Target) (a b : Option Claim)
    → Wins sheets dom n own target a → Wins sheets dom n own target b → a ≡ b
one_claim sheets dom n own target None None x y = refl
one_claim sheets dom n own target None (Some b) x y = absurd (x b y.applies y.about)
one_claim sheets dom n own target (Some a) None x y = absurd (y a x.applies x.about)
one_claim sheets dom n own target (Some a) (Some b) x y = ap Some (one_winner sheets dom n own target a b x y)

one_value : (sheets : List Sheet) (dom : Dom) (n : ℕ) (own : List Setting) (property : Property) (a b : Option Value)
    → IsWonValue sheets dom n own property a → IsWonValue sheets dom n own property b → a ≡ b
one_value sheets dom n own property a b x y =
    x.gives ∙ ap won_value (one_claim sheets dom n own (Laid property) x.claim y.claim x.wins y.wins) ∙ sym y.gives

-- ---- what it is computed to, by what wins for each property

abbrev own_by : (Property → Option Value) → Option Style → Option ℕ → ℕ
own_by won parent root = length_or medium (value_at own.FontSize parent (outer_sizes parent root) (won own.FontSize))

abbrev value_by : (Property → Option Value) → Option Style → FontSizes → Property → Computed
value_by won parent sizes property = value_at property parent sizes (won property)

abbrev computed_by : (Property → Option Value) → Option Style → Option ℕ → Property → Computed
computed_by won parent root = with_widths (own_by won parent root) (value_by won parent (inner_sizes (own_by won parent root) root))

one_style : (a b : List (Option Value)) → ((property : Property) → winner a property ≡ winner b property)
    → (p q : Option Style) → p ≡ q → (r s : Option ℕ) → r ≡ s
    → style_by (computed_value a p r) ≡ style_by (computed_value b q s)
one_style a b same p q parent r s root = λ i. style_by (computed_by (λ property. same property i) (parent i) (root i))

-- ---- what is refused

some_is : {X : Type 0} (a b : X) → Some a ≡ Some b → a ≡ b
some_is a b e = cc

one_target : (a b : Target) → target_place a ≡ target_place b → a ≡ b
one_target a b e =
    some_is a b (sym (places_known a) ∙ ap (slice_get (map Laid properties ++ map Unlaid barred_properties)) e ∙ places_known b)

same_name : (x y : ConstructName) → given.Refused x ≡ given.Refused y → x ≡ y
same_name x y e = some_is x y (ap given_refusal e)

module _ (sheets : List Sheet) (dom : Dom) (n : ℕ) (own : List Setting) where
  one_name : (target : Target) (a b : ConstructName) → Refuses sheets dom n own target a → Refuses sheets dom n own target b
      → a ≡ b
  one_name target a b x y =
      same_name a b (sym x.refused ∙ ap (λ c. c.given) (one_winner sheets dom n own target x.claim y.claim x.wins y.wins) ∙ y.refused)

  first_name : (a b : ConstructName) → IsFirstRefused sheets dom n own a → IsFirstRefused sheets dom n own b → a ≡ b
  first_name a b x y = elim (cases_lt (target_place x.target) (target_place y.target)) [
    | inl below ↦ absurd (y.first x.target a below x.refuses)
    | inr above ↦ elim (cases_lt (target_place y.target) (target_place x.target)) [
      | inl below ↦ absurd (x.first y.target b below y.refuses)
      | inr under ↦ one_name y.target a b
          (subst (λ t. Refuses sheets dom n own t a) (one_target x.target y.target (omega (arith, above, under))) x.refuses)
          y.refuses
    ]
  ]

  one_refused : (a b : Option ConstructName) → MatchOption a (NoneRefused sheets dom n own) (λ name. IsFirstRefused sheets dom n own name)
      → MatchOption b (NoneRefused sheets dom n own) (λ name. IsFirstRefused sheets dom n own name) → a ≡ b
  one_refused None None x y = refl
  one_refused None (Some b) x y = absurd (x y.target b y.refuses)
  one_refused (Some a) None x y = absurd (y x.target a x.refuses)
  one_refused (Some a) (Some b) x y = ap Some (first_name a b x y)

abbrev IsThis : Option DomNode → Type 0
IsThis o = IsSomeAnd o (λ node. IsTrue (is_element node))

-- ---- the entries

same_entry : (a b : NodeStyle) → a.style ≡ b.style → a.refused ≡ b.refused → a ≡ b
same_entry a b style refused = λ i. record { style = style i; refused = refused i }

abbrev size : Option Style → Option ℕ
size style = option_map (λ (s : Style). length_or medium s.font_size) style

inside : (n : ℕ) → (n ≡ 0 → ⊥) → 0 < n
inside zero some = absurd (some refl)
inside (suc n) some = omega arith

module _ (sheets : List Sheet) (dom : Dom) (earlier : ParentsAreEarlier dom) (a b : List (Option NodeStyle)) where
  module _ (n : ℕ) (before : (k : ℕ) → k < n → entry_at a k ≡ entry_at b k) where
    style_same : (k : ℕ) → k < n → style_at a k ≡ style_at b k
    style_same k h = ap (option_map (λ (entry : NodeStyle). entry.style)) (before k h)

    parent_same : parent_style a dom n ≡ parent_style b dom n
    parent_same = by (parent_at dom n) refl
      where
        by : (o : Option ℕ) → parent_at dom n ≡ o → option_and_then (style_at a) o ≡ option_and_then (style_at b) o
        by None e = refl
        by (Some p) e = style_same p (earlier n p e)

    root_same : root_size a n ≡ root_size b n
    root_same = by (nat_eq n 0) refl
      where
        by : (t : Bool) → nat_eq n 0 ≡ t
            → (if t then None else size (style_at a 0)) ≡ (if t then None else size (style_at b 0))
        by true e = refl
        by false e = ap size (style_same 0 (inside n (eqb-false n 0 e)))

    entry_same : HasEntry sheets dom a n → HasEntry sheets dom b n → entry_at a n ≡ entry_at b n
    entry_same x y =
        let won = λ (property : Property). one_value (all_sheets sheets) dom n (own_at dom n) property
        (winner x.styled.winning property) (winner y.styled.winning property) (x.styled.won property) (y.styled.won property) in
        let style : x.entry.style ≡ y.entry.style = x.styled.style ∙ one_style x.styled.winning y.styled.winning won
        (parent_style a dom n) (parent_style b dom n) parent_same (root_size a n) (root_size b n) root_same ∙ sym y.styled.style in
        let refused = one_refused (all_sheets sheets) dom n (own_at dom n) x.entry.refused y.entry.refused x.styled.refused
        y.styled.refused in
        x.stands ∙ ap Some (same_entry x.entry y.entry style refused) ∙ sym y.stands

  module _ (x : IsCascaded sheets dom a) (y : IsCascaded sheets dom b) where
    entry_one : (n : ℕ) → ((k : ℕ) → k < n → entry_at a k ≡ entry_at b k) → entry_at a n ≡ entry_at b n
    entry_one n before = by (slice_get dom.nodes n) refl
      where
        here : (node : DomNode) (t : Bool) → is_element node ≡ t → slice_get dom.nodes n ≡ Some node → entry_at a n ≡ entry_at b n
        here node true e at =
            let element : IsElementAt dom n = subst IsThis (sym at) (subst IsTrue (sym e) refl) in
            entry_same n before (x.each n element) (y.each n element)
        here node false e at =
            let none : IsElementAt dom n → ⊥ = λ element. let t : IsTrue false = subst IsTrue e (subst IsThis at element) in absurd cc in
            x.others n none ∙ sym (y.others n none)

        by : (o : Option DomNode) → slice_get dom.nodes n ≡ o → entry_at a n ≡ entry_at b n
        by None at = let none : IsElementAt dom n → ⊥ = λ element. subst IsThis at element in x.others n none ∙ sym (y.others n none)
        by (Some node) at = here node (is_element node) refl at

    entries_below : (m k : ℕ) → k < m → entry_at a k ≡ entry_at b k
    entries_below zero k h = absurd (omega (arith, h))
    entries_below (suc m) k h = elim (cases_lt k m) [
      | inl below ↦ entries_below m k below
      | inr above ↦ subst (λ j. entry_at a j ≡ entry_at b j) (let e : m ≡ k = omega (arith, h, above) in e)
          (entry_one m (entries_below m))
    ]

some-not-none : (e : NodeStyle) → Some e ≡ None → ⊥
some-not-none e h = cc

same-lists : (a b : List (Option NodeStyle)) → length a ≡ length b → ((k : ℕ) → entry_at a k ≡ entry_at b k) → a ≡ b
same-lists [] [] size same = refl
same-lists [] (y ∷ b) size same = absurd (omega (arith, size))
same-lists (x ∷ a) [] size same = absurd (omega (arith, size))
same-lists (x ∷ a) (y ∷ b) size same =
    let rest = same-lists a b (omega (arith, size)) (λ k. same (suc k)) in
    λ i. same 0 i ∷ rest i

pub one_styling : OneStyling
one_styling sheets dom a b earlier x y =
    same-lists a b (x.size ∙ sym y.size) (λ k. entries_below sheets dom earlier a b x y (suc k) k (omega arith))
