-- Entries stay as more are made.
use Rattle.std.proofs.Common.{◌≡◌, ◌<◌, ◌≤◌, ◌+◌, ◌⊎◌, inl, inr, ℕ, zero, suc, Bool, true, false, List, [], ◌∷◌, ◌++◌, length}
use Rattle.std.proofs.Common.{length-append, Option, Some, None, refl, sym, ap, subst, ◌∙◌, arith, nat_eq}
use Rattle.std.specs.Prelude.{slice_get, IsSome, option_and_then, if◌then◌else◌}
use Rattle.std.specs.Option.{option_map}
use Rattle.std.proofs.lemmas.Bool.{cases_lt, eqb-false}
use Rattle.html_grammar.specs.declared.dom.Dom.{Dom}
use Rattle.css_data.specs.declared.rule.Sheet.{Sheet}
use Rattle.css_select.specs.Places.{IsElementAt, ParentsAreEarlier, parent_at}
use Rattle.css_computed.specs.declared.style.Style.{Style}
use Rattle.css_computed.specs.Styles.{style_by}
use Rattle.css_computed.specs.Computing.{computed_value, length_or, medium}
use Rattle.css_winner.specs.declared.setting.Setting.{Setting}
use Rattle.css_winner.specs.Rules.{all_sheets}
use Rattle.css_cascade.specs.declared.styles.NodeStyle.{NodeStyle}
use Rattle.css_cascade.specs.Entries.{itself, entry_at, style_at}
use Rattle.css_cascade.specs.Attributes.{own_at}
use Rattle.css_cascade.specs.Cascaded.{parent_style, root_size, IsStyled, HasEntry, IsEntry, HasEntries, IsCascaded, OthersHaveNone}

get_front : {X : Type 0} (xs ys : List X) (k : ℕ) → k < length xs → slice_get (xs ++ ys) k ≡ slice_get xs k
get_front [] ys k h = absurd (omega arith)
get_front (x ∷ xs) ys zero h = refl
get_front (x ∷ xs) ys (suc k) h = get_front xs ys k (omega arith)

get_last : {X : Type 0} (xs : List X) (x : X) → slice_get (xs ++ x ∷ []) (length xs) ≡ Some x
get_last [] x = refl
get_last (y ∷ xs) x = get_last xs x

abbrev size : Option Style → Option ℕ
size style = option_map (λ (s : Style). length_or medium s.font_size) style

inside : (n m : ℕ) → (n ≡ 0 → ⊥) → n ≤ m → 0 < m
inside zero m some h = absurd (some refl)
inside (suc n) m some h = omega arith

module _ (xs ys : List (Option NodeStyle)) where
  entry_kept : (k : ℕ) → k < length xs → entry_at (xs ++ ys) k ≡ entry_at xs k
  entry_kept k h = ap (option_and_then itself) (get_front xs ys k h)

  style_kept : (k : ℕ) → k < length xs → style_at (xs ++ ys) k ≡ style_at xs k
  style_kept k h = ap (option_map (λ (entry : NodeStyle). entry.style)) (entry_kept k h)

  parent_kept : (dom : Dom) (n : ℕ) → ParentsAreEarlier dom → n ≤ length xs
      → parent_style (xs ++ ys) dom n ≡ parent_style xs dom n
  parent_kept dom n earlier h = by (parent_at dom n) refl
    where
      by : (o : Option ℕ) → parent_at dom n ≡ o → option_and_then (style_at (xs ++ ys)) o ≡ option_and_then (style_at xs) o
      by None e = refl
      by (Some p) e = let below = earlier n p e in style_kept p (omega (arith, below, h))

  root_kept : (n : ℕ) → n ≤ length xs → root_size (xs ++ ys) n ≡ root_size xs n
  root_kept n h = by (nat_eq n 0) refl
    where
      by : (b : Bool) → nat_eq n 0 ≡ b
          → (if b then None else size (style_at (xs ++ ys) 0)) ≡ (if b then None else size (style_at xs 0))
      by true e = refl
      by false e = ap size (style_kept 0 (inside n (length xs) (eqb-false n 0 e) h))

  pub styled_kept : (sheets : List Sheet) (dom : Dom) (own : List Setting) (n : ℕ) (entry : NodeStyle) → ParentsAreEarlier dom
      → n ≤ length xs → IsStyled sheets dom own xs n entry → IsStyled sheets dom own (xs ++ ys) n entry
  styled_kept sheets dom own n entry earlier h it =
      let parent = sym (parent_kept dom n earlier h) in
      let root = sym (root_kept n h) in
      record {
        winning = it.winning;
        won = it.won;
        style = it.style ∙ (λ i. style_by (computed_value it.winning (parent i) (root i)));
        refused = it.refused;
      }

  has_kept : (sheets : List Sheet) (dom : Dom) (n : ℕ) → ParentsAreEarlier dom → n < length xs → HasEntry sheets dom xs n
      → HasEntry sheets dom (xs ++ ys) n
  has_kept sheets dom n earlier h it =
      record {
        entry = it.entry;
        stands = entry_kept n h ∙ it.stands;
        styled = styled_kept (all_sheets sheets) dom (own_at dom n) n it.entry earlier (omega arith) it.styled;
      }

-- after the last entry, and at one that is none, stands none
none-from : (xs : List (Option NodeStyle)) (k : ℕ) → length xs ≤ k → entry_at (xs ++ None ∷ []) k ≡ None
none-from [] zero h = refl
none-from [] (suc k) h = refl
none-from (x ∷ xs) zero h = absurd (omega (arith, h))
none-from (x ∷ xs) (suc k) h = none-from xs k (omega (arith, h))

past-one : (xs : List (Option NodeStyle)) (entry : NodeStyle) (k : ℕ) → length xs ≤ k → (k ≡ length xs → ⊥)
    → entry_at (xs ++ Some entry ∷ []) k ≡ None
past-one [] entry zero h outside = absurd (outside refl)
past-one [] entry (suc k) h outside = refl
past-one (x ∷ xs) entry zero h outside = absurd (omega (arith, h))
past-one (x ∷ xs) entry (suc k) h outside = past-one xs entry k (omega (arith, h)) (λ e. outside (ap suc e))

sooner : (k n : ℕ) → k < n + 1 → (k < n) ⊎ (k ≡ n)
sooner k n h = elim (cases_lt k n) [ inl a ↦ inl a | inr b ↦ inr (omega arith) ]

module _ (sheets : List Sheet) (dom : Dom) (earlier : ParentsAreEarlier dom) (xs : List (Option NodeStyle)) (n : ℕ)
    (long : length xs ≡ n) where
  made : (entry : Option NodeStyle) → IsEntry (all_sheets sheets) dom (own_at dom n) xs n entry → IsElementAt dom n
      → HasEntry sheets dom (xs ++ entry ∷ []) n
  made None none element = absurd (none element)
  made (Some entry) (element-is, it) element =
      record {
        entry = entry;
        stands = ap (option_and_then itself) (ap (slice_get (xs ++ Some entry ∷ [])) (sym long) ∙ get_last xs (Some entry));
        styled = styled_kept xs (Some entry ∷ []) (all_sheets sheets) dom (own_at dom n) n entry earlier (omega arith) it;
      }

  -- a node from the last one on that is no element has no entry
  last-none : (entry : Option NodeStyle) → IsEntry (all_sheets sheets) dom (own_at dom n) xs n entry → (k : ℕ) → n ≤ k
      → (IsElementAt dom k → ⊥) → entry_at (xs ++ entry ∷ []) k ≡ None
  last-none None none k after outside = none-from xs k (omega (arith, after, long))
  last-none (Some entry) (element, it) k after outside = past-one xs entry k (omega (arith, after, long))
      (λ same. outside (subst (IsElementAt dom) (sym long ∙ sym same) element))

  pub entries_more : ((k : ℕ) → k < n → IsElementAt dom k → HasEntry sheets dom xs k) → OthersHaveNone dom xs
      → (entry : Option NodeStyle)
      → IsEntry (all_sheets sheets) dom (own_at dom n) xs n entry → HasEntries sheets dom (n + 1) (xs ++ entry ∷ [])
  entries_more so_far before-none entry it =
      record {
        size = length-append xs (entry ∷ []) ∙ ap (λ k. k + 1) long;
        each = λ k below element. elim (sooner k n below) [
          | inl before ↦ has_kept xs (entry ∷ []) sheets dom k earlier (omega arith) (so_far k before element)
          | inr now ↦ subst (HasEntry sheets dom (xs ++ entry ∷ [])) (sym now)
              (made entry it (subst (IsElementAt dom) now element))
        ];
        others = λ k outside. elim (cases_lt k n) [
          | inl before ↦ entry_kept xs (entry ∷ []) k (omega (arith, before, long)) ∙ before-none k outside
          | inr after ↦ last-none entry it k after outside
        ];
      }

-- each element has its entry
pub element_has_entry : (sheets : List Sheet) (dom : Dom) (styles : List (Option NodeStyle)) (n : ℕ)
    → IsCascaded sheets dom styles → IsElementAt dom n → IsSome (entry_at styles n)
element_has_entry sheets dom styles n cascaded element =
    let it = cascaded.each n element in
    subst IsSome (sym it.stands) refl

-- no node has its entry yet
pub no_entries : (sheets : List Sheet) (dom : Dom) (xs : List (Option NodeStyle)) → xs ≡ [] → HasEntries sheets dom 0 xs
no_entries sheets dom xs e =
    record {
      size = ap length e;
      each = λ n below element. absurd (omega arith);
      others = λ n outside. ap (λ s. entry_at s n) e;
    }

-- one more node has
pub entries_step : (sheets : List Sheet) (dom : Dom) → ParentsAreEarlier dom → (xs : List (Option NodeStyle)) (n : ℕ)
    → HasEntries sheets dom n xs
    → (before : List (Option NodeStyle)) → before ≡ xs → (own : List Setting) → own ≡ own_at dom n
    → (entry : Option NodeStyle) → IsEntry (all_sheets sheets) dom own before n entry
    → (new : List (Option NodeStyle)) → new ≡ xs ++ entry ∷ [] → HasEntries sheets dom (n + 1) new
entries_step sheets dom earlier xs n so_far before same own sets entry it new is =
    let here : IsEntry (all_sheets sheets) dom (own_at dom n) xs n entry =
    subst (λ o. IsEntry (all_sheets sheets) dom o xs n entry) sets
    (subst (λ b. IsEntry (all_sheets sheets) dom own b n entry) same it) in
    subst (HasEntries sheets dom (n + 1)) (sym is) (entries_more sheets dom earlier xs n so_far.size so_far.each so_far.others entry here)
