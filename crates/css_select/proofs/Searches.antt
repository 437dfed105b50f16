-- What walks tell, one after another, and what a search among earlier siblings or ancestors tells.
use Rattle.std.proofs.Common.{◌≡◌, ℕ, zero, suc, ◌+◌, ◌<◌, ◌⊎◌, inl, inr, Bool, true, false, Option, Some, None, length, refl}
use Rattle.std.proofs.Common.{sym, subst, arith}
use Rattle.std.specs.Prelude.{slice_get, IfSome, IsSomeAnd, MatchOption}
use Rattle.html_grammar.specs.declared.dom.Dom.{Dom}
use Rattle.css_data.specs.declared.selector.Join.{Join}
use Rattle.css_data.specs.declared.selector.Join.TheVariants.{Descendant, Child, Next, Later}
use Rattle.css_data.specs.declared.selector.Selector.{Selector}
use Rattle.css_select.specs.declared.walk.Walk.{Walk}
use Rattle.css_select.specs.declared.walk.Walk.TheVariants as walks
use Rattle.css_select.specs.Matching.{Stands}
use Rattle.css_select.specs.Walking.{any_join, is_near, is_level, IsNearest, IsOn, IsStopped, JoinedBy, MeetsAt, Comes, StopsAt}
use Rattle.css_select.specs.Walking.{Tells, UpTo}
use Rattle.css_select.proofs.Ancestors.{ancestor_of_ancestor}
use Rattle.css_select.proofs.Nearest.{stands_on}
use Rattle.css_select.proofs.Ways.{comes_by, comes_on, near_ends, level_ends, up_beside, up_from, up_under}

-- what is still to be tried
abbrev pub Remains : Dom → Join → Option ℕ → ℕ → Type 0
Remains dom join None k = ⊥
Remains dom join (Some m) k = (k ≡ m) ⊎ Stands dom join k m

abbrev pub MatchNearest : Dom → Join → Option ℕ → ℕ → Type 0
MatchNearest dom join next n = MatchOption next ((m : ℕ) → Stands dom join m n → ⊥) (λ m. IsNearest dom join m n)

near_is_level : (j : Join) → is_near j ≡ true → is_level j ≡ true
near_is_level Descendant h = absurd cc
near_is_level Child h = refl
near_is_level Next h = refl
near_is_level Later h = absurd cc

any_is_any : (j : Join) → is_level j ≡ true → any_join j ≡ true
any_is_any j h = refl

-- the join where a walk over all joins but descendants' stops
pub stop_is_descendant : (o : Option Join) → IsSomeAnd o (λ j. is_level j ≡ false) → o ≡ Some Descendant
stop_is_descendant None h = absurd h
stop_is_descendant (Some Descendant) h = refl
stop_is_descendant (Some Child) h = absurd cc
stop_is_descendant (Some Next) h = absurd cc
stop_is_descendant (Some Later) h = absurd cc

module _ (dom : Dom) (s : Selector) where
  joined_at : (p : Join → Bool) (left m n : ℕ) (j : Join) → slice_get s.joins left ≡ Some j → p j ≡ true → Stands dom j m n
      → JoinedBy p dom s left m n
  joined_at p left m n j e holds stands =
      let P : Option Join → Type 0 = λ o. IsSomeAnd o (λ v. (p v ≡ true) × Stands dom v m n) in
      subst P (sym e) (holds, stands)

  stands_at : (left m n : ℕ) (j : Join) → slice_get s.joins left ≡ Some j → JoinedBy any_join dom s left m n → Stands dom j m n
  stands_at left m n j e joined =
      let P : Option Join → Type 0 = λ o. IsSomeAnd o (λ v. (any_join v ≡ true) × Stands dom v m n) in
      let here = subst P e joined in
      here.1

  pub stops_from : (p : Join → Bool) (left : ℕ) (j : Join) → slice_get s.joins left ≡ Some j → p j ≡ false
      → StopsAt p s (suc left)
  stops_from p left j e never = let P : Option Join → Type 0 = λ o. IsSomeAnd o (λ v. p v ≡ false) in subst P (sym e) never

  meets_of : (i n : ℕ) → UpTo dom s i n → MeetsAt dom s i n
  meets_of zero n up = up
  meets_of (suc i) n up = up.1

  comes_here : (p : Join → Bool) (i n : ℕ) → Comes p dom s i n i n
  comes_here p zero n = (refl, refl)
  comes_here p (suc i) n = inl (refl, refl)

  -- Steps of a walk.

  pub on_start : (p : Join → Bool) (i n : ℕ) → i < length s.compounds → n < length dom.nodes → IsOn p dom s i n i n
  on_start p i n fits within = record { place = fits; node = within; comes = comes_here p i n; all = λ up. up }

  only_left : (left at m : ℕ) (j : Join) → slice_get s.joins left ≡ Some j → is_near j ≡ true → IsNearest dom j m at
      → UpTo dom s (suc left) at → UpTo dom s left m
  only_left left at m j e near nearest (k, meets, joined, up) =
      only left at m j near k up (nearest.others k (stands_at left k at j e joined))
    where
      only : (left at m : ℕ) (j : Join) → is_near j ≡ true → (k : ℕ) → UpTo dom s left k
          → (k ≡ m) ⊎ ((is_near j ≡ false) × Stands dom j k m) → UpTo dom s left m
      only left at m j near k up (inl same) = let P : ℕ → Type 0 = λ v. UpTo dom s left v in subst P same up
      only left at m j near k up (inr far) = absurd cc

  pub on_left : (i n left at m : ℕ) (j : Join) → IsOn is_near dom s i n (suc left) at → MeetsAt dom s (suc left) at
      → slice_get s.joins left ≡ Some j → is_near j ≡ true → IsNearest dom j m at → IsOn is_near dom s i n left m
  on_left i n left at m j on meets e near nearest =
      let fits = on.place in
      let within = on.node in
      let below = nearest.below in
      record {
        place = omega arith;
        node = omega arith;
        comes = comes_on dom s is_near i n (suc left) at left m on.comes
            (inr (m, meets, joined_at is_near left m at j e near nearest.stands, comes_here is_near left m));
        all = λ up. only_left left at m j e near nearest (on.all up);
      }

  pub on_lost : (p : Join → Bool) (i n q at : ℕ) → IsOn p dom s i n q at → (MeetsAt dom s q at → ⊥) → UpTo dom s i n → ⊥
  on_lost p i n q at on never up = never (meets_of q at (on.all up))

  none_left : (left at : ℕ) (j : Join) → slice_get s.joins left ≡ Some j → ((k : ℕ) → Stands dom j k at → UpTo dom s left k → ⊥)
      → UpTo dom s (suc left) at → ⊥
  none_left left at j e never (k, meets, joined, up) = never k (stands_at left k at j e joined) up

  pub on_edge : (p : Join → Bool) (i n left at : ℕ) (j : Join) → IsOn p dom s i n (suc left) at → slice_get s.joins left ≡ Some j
      → ((k : ℕ) → Stands dom j k at → ⊥) → UpTo dom s i n → ⊥
  on_edge p i n left at j on e never up = none_left left at j e (λ k h u. never k h) (on.all up)

  pub on_matched : (p : Join → Bool) (i n at : ℕ) → IsOn p dom s i n zero at → MeetsAt dom s zero at → UpTo dom s i n
  on_matched p i n at on meets = up_from dom s p i n zero at on.comes meets

  -- One walk after another.

  pub tells_on : (over stop : Join → Bool) (i n q l : ℕ) (walk : Walk) → IsOn over dom s i n q l → Tells over stop dom s q l walk
      → Tells over stop dom s i n walk
  tells_on over stop i n q l walks.Lost on tells = λ up. tells (on.all up)
  tells_on over stop i n q l walks.Matched on tells = up_from dom s over i n q l on.comes tells
  tells_on over stop i n q l (walks.At r k) on tells =
      let then = tells.0 in (
        record {
          place = then.place;
          node = then.node;
          comes = comes_on dom s over i n q l r k on.comes then.comes;
          all = λ up. then.all (on.all up);
        },
        tells.1,
      )

  tells_by : (p q stop : Join → Bool) → ((j : Join) → p j ≡ true → q j ≡ true) → (i n : ℕ) (walk : Walk)
      → Tells p stop dom s i n walk → Tells q stop dom s i n walk
  tells_by p q stop more i n walks.Lost tells = tells
  tells_by p q stop more i n walks.Matched tells = tells
  tells_by p q stop more i n (walks.At r k) tells =
      let on = tells.0 in
      (record { place = on.place; node = on.node; comes = comes_by dom s p q more i n r k on.comes; all = on.all }, tells.1)

  pub tells_level : (stop : Join → Bool) (i n : ℕ) (walk : Walk) → Tells is_near stop dom s i n walk
      → Tells is_level stop dom s i n walk
  tells_level stop i n walk tells = tells_by is_near is_level stop near_is_level i n walk tells

  pub tells_any : (stop : Join → Bool) (i n : ℕ) (walk : Walk) → Tells is_level stop dom s i n walk
      → Tells any_join stop dom s i n walk
  tells_any stop i n walk tells = tells_by is_level any_join stop any_is_any i n walk tells

  -- Searches.

  pub remains_next : (join : Join) (next : Option ℕ) (at k : ℕ) → MatchNearest dom join next at → Stands dom join k at
      → Remains dom join next k
  remains_next join None at k h p = h k p
  remains_next join (Some m) at k h p = without k m (h.others k p)
    where
      without : (k m : ℕ) → (k ≡ m) ⊎ ((is_near join ≡ false) × Stands dom join k m) → (k ≡ m) ⊎ Stands dom join k m
      without k m (inl e) = inl e
      without k m (inr x) = inr x.1

  -- where the nearest one didn't match, the others remain
  pub remains_after : (join : Join) (next : Option ℕ) (left at k : ℕ) → MatchNearest dom join next at → (UpTo dom s left at → ⊥)
      → UpTo dom s left k → (k ≡ at) ⊎ Stands dom join k at → Remains dom join next k
  remains_after join next left at k h lost up (inl e) = let P : ℕ → Type 0 = λ v. UpTo dom s left v
      in absurd (lost (subst P e up))
  remains_after join next left at k h lost up (inr p) = remains_next join next at k h p

  pub none_remains : (left node : ℕ) (j : Join) → slice_get s.joins left ≡ Some j
      → ((k : ℕ) → Stands dom j k node → UpTo dom s left k → Remains dom j None k) → UpTo dom s (suc left) node → ⊥
  none_remains left node j e rest up = none_left left node j e rest up

  all_siblings : (left node at q l : ℕ) → slice_get s.joins left ≡ Some Later
      → ((k : ℕ) → Stands dom Later k node → UpTo dom s left k → Remains dom Later (Some at) k) → IsOn is_near dom s left at q l
      → IsStopped is_near dom s q l → UpTo dom s (suc left) node → UpTo dom s q l
  all_siblings left node at q l e rest on stopped (k, meets, joined, up) =
      by left at q l on stopped k up (rest k (stands_at left k node Later e joined) up)
    where
      by : (left at q l : ℕ) → IsOn is_near dom s left at q l → IsStopped is_near dom s q l → (k : ℕ) → UpTo dom s left k
          → Remains dom Later (Some at) k → UpTo dom s q l
      by left at q l on stopped k up (inl same) = let P : ℕ → Type 0 = λ v. UpTo dom s left v in on.all (subst P same up)
      by left at q l on stopped k up (inr earlier) =
          let ended = near_ends dom s left k at q l up on.comes (inr earlier) in
          up_beside dom s q ended.0 l stopped.stops stopped.meets ended.1 ended.2

  -- the nearest earlier sibling from which a walk isn't lost tells
  pub found_sibling : (left node at : ℕ) (walk : Walk) → slice_get s.joins left ≡ Some Later → MeetsAt dom s (suc left) node
      → Stands dom Later at node → ((k : ℕ) → Stands dom Later k node → UpTo dom s left k → Remains dom Later (Some at) k)
      → (walk ≡ walks.Lost → ⊥) → Tells is_near is_near dom s left at walk → Tells is_level is_near dom s (suc left) node walk
  found_sibling left node at walks.Lost e meets stands rest never tells = absurd (never refl)
  found_sibling left node at walks.Matched e meets stands rest never tells =
      (at, meets, joined_at any_join left at node Later e refl stands, tells)
  found_sibling left node at (walks.At q l) e meets stands rest never (on, stopped) = (
    record {
      place = on.place;
      node = on.node;
      comes = inr (
        at,
        meets,
        joined_at is_level left at node Later e refl stands,
        comes_by dom s is_near is_level near_is_level left at q l on.comes,
      );
      all = λ up. all_siblings left node at q l e rest on stopped up;
    },
    stopped,
  )

  all_ancestors : (left node at q l : ℕ) → slice_get s.joins left ≡ Some Descendant
      → ((k : ℕ) → Stands dom Descendant k node → UpTo dom s left k → Remains dom Descendant (Some at) k)
      → IsOn is_level dom s left at q l → IsStopped is_level dom s q l → UpTo dom s (suc left) node → UpTo dom s q l
  all_ancestors left node at q l e rest on stopped (k, meets, joined, up) =
      by left at q l on stopped k up (rest k (stands_at left k node Descendant e joined) up)
    where
      by : (left at q l : ℕ) → IsOn is_level dom s left at q l → IsStopped is_level dom s q l → (k : ℕ) → UpTo dom s left k
          → Remains dom Descendant (Some at) k → UpTo dom s q l
      by left at q l on stopped k up (inl same) = let P : ℕ → Type 0 = λ v. UpTo dom s left v in on.all (subst P same up)
      by left at q l on stopped k up (inr above) =
          let ended = level_ends dom s left k at q l up on.comes (λ a h. ancestor_of_ancestor dom a k at h above) in
          up_under dom s q ended.0 l stopped.stops stopped.meets ended.1 ended.2

  -- the nearest ancestor from which a walk isn't lost tells
  pub found_ancestor : (left node at : ℕ) (walk : Walk) → slice_get s.joins left ≡ Some Descendant → MeetsAt dom s (suc left) node
      → Stands dom Descendant at node
      → ((k : ℕ) → Stands dom Descendant k node → UpTo dom s left k → Remains dom Descendant (Some at) k)
      → (walk ≡ walks.Lost → ⊥) → Tells is_level is_level dom s left at walk → Tells any_join is_level dom s (suc left) node walk
  found_ancestor left node at walks.Lost e meets stands rest never tells = absurd (never refl)
  found_ancestor left node at walks.Matched e meets stands rest never tells =
      (at, meets, joined_at any_join left at node Descendant e refl stands, tells)
  found_ancestor left node at (walks.At q l) e meets stands rest never (on, stopped) = (
    record {
      place = on.place;
      node = on.node;
      comes = inr (
        at,
        meets,
        joined_at any_join left at node Descendant e refl stands,
        comes_by dom s is_level any_join any_is_any left at q l on.comes,
      );
      all = λ up. all_ancestors left node at q l e rest on stopped up;
    },
    stopped,
  )

pub stops_above : (p : Join → Bool) (s : Selector) (place : ℕ) → StopsAt p s place → 0 < place
stops_above p s zero stops = absurd stops
stops_above p s (suc q) stops = omega arith

pub descendant_at : (s : Selector) (place left : ℕ) → place ≡ suc left → StopsAt is_level s place
    → slice_get s.joins left ≡ Some Descendant
descendant_at s place left e stops = let P : ℕ → Type 0 = λ v. StopsAt is_level s v
    in stop_is_descendant (slice_get s.joins left) (subst P e stops)

-- A search among those that stand so to a node: the next to be tried, and all others that match still remain.
pub record IsSearching (dom : Dom) (s : Selector) (join : Join) (left node : ℕ) (next : Option ℕ) : Type 0 where
  pub in_range : IfSome next (λ m. m < length dom.nodes)
  pub stands : IfSome next (λ m. Stands dom join m node)
  pub rest : (k : ℕ) → Stands dom join k node → UpTo dom s left k → Remains dom join next k

module _ (dom : Dom) (s : Selector) where
  next_in_range : (join : Join) (next : Option ℕ) (at : ℕ) → at < length dom.nodes → MatchNearest dom join next at
      → IfSome next (λ m. m < length dom.nodes)
  next_in_range join None at within h = tt
  next_in_range join (Some m) at within h = let below = h.below in omega arith

  next_stands : (join : Join) (next : Option ℕ) (at : ℕ) → MatchNearest dom join next at → IfSome next (λ m. Stands dom join m at)
  next_stands join None at h = tt
  next_stands join (Some m) at h = h.stands

  pub search_begins : (join : Join) (left node : ℕ) (next : Option ℕ) → node < length dom.nodes → MatchNearest dom join next node
      → IsSearching dom s join left node next
  search_begins join left node next within h = record {
    in_range = next_in_range join next node within h;
    stands = next_stands join next node h;
    rest = λ k stands up. remains_next dom s join next node k h stands;
  }

  stands_further : (join : Join) (next : Option ℕ) (at node : ℕ) → is_near join ≡ false → Stands dom join at node
      → IfSome next (λ m. Stands dom join m at) → IfSome next (λ m. Stands dom join m node)
  stands_further join None at node far stands h = tt
  stands_further join (Some m) at node far stands h = stands_on dom join m at node far h stands

  pub search_goes_on : (join : Join) (left node at : ℕ) (next : Option ℕ) → is_near join ≡ false
      → IsSearching dom s join left node (Some at) → (UpTo dom s left at → ⊥) → MatchNearest dom join next at
      → IsSearching dom s join left node next
  search_goes_on join left node at next far searching lost h = record {
    in_range = next_in_range join next at searching.in_range h;
    stands = stands_further join next at node far searching.stands (next_stands join next at h);
    rest = λ k stands up. remains_after dom s join next left at k h lost up (searching.rest k stands up);
  }

  pub search_ends : (join : Join) (left node : ℕ) → slice_get s.joins left ≡ Some join → IsSearching dom s join left node None
      → UpTo dom s (suc left) node → ⊥
  search_ends join left node e searching up = none_remains dom s left node join e searching.rest up

abbrev pub end_of : Option ℕ → ℕ
end_of None = 0
end_of (Some m) = m + 1
