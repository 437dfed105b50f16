-- Where the next columns begin after a line.
use Rattle.std.proofs.Common.{◌≡◌, ℕ, zero, suc, ◌<◌, List, [], ◌∷◌, ◌++◌, length, take, get_or, refl, sym, ◌∙◌, ap, subst}
use Rattle.std.proofs.Common.{Option, Some, None}
use Rattle.std.specs.Prelude.{All, IfSome, slice_get}
use Rattle.std.proofs.lemmas.List.{append_assoc}
use Rattle.std.proofs.lemmas.Option.{slice_get_read}
use Rattle.std.proofs.lemmas.List.Elements.{All-append, All-cons, All-head, All-nil, All-push, All-tail, All-take}
use Rattle.flow_list.specs.Column.{ColumnLine}
use Rattle.flow_list.specs.Data.{FlowsData}
use Rattle.flow_list.specs.Certificate.{Use}
use Rattle.flow_list.specs.Tokens.{Token}
use Rattle.cite_laws.specs.Starts.{inner_start, next_start, starts_after, starts_behind}
use Rattle.cert_laws.specs.Made.{listed}

-- a look at one of them, by its depth
pub start-at : (starts seen : List Use) (k : ℕ) (u : Use) → seen ≡ starts → k < length seen → u ≡ get_or seen k u
    → slice_get starts k ≡ Some u
start-at starts seen k u same lt is =
    ap (λ (us : List Use). slice_get us k) (sym same) ∙ slice_get_read seen (length seen) k u refl lt is

-- those around, the next one, and the one in the stop, if it is a row
pub starts-are : (d : FlowsData) (starts new : List Use) (l : ColumnLine) (u next : Use) (inner : Option Use)
    → slice_get starts l.depth ≡ Some u → next ≡ next_start u l.end → listed inner ≡ inner_start d u l.stop
    → new ≡ (take l.depth starts ++ next ∷ []) ++ listed inner → new ≡ starts_after d starts l
starts-are d starts new l u next inner at is row so =
    so ∙ append_assoc (take l.depth starts) (next ∷ []) (listed inner)
    ∙ ap (λ (v : Use). take l.depth starts ++ v ∷ listed inner) is
    ∙ ap (λ (us : List Use). take l.depth starts ++ next_start u l.end ∷ us) row
    ∙ ap (λ (o : Option Use). starts_behind d starts l o) (sym at)

-- no columns of the line's depth
pub starts-stay : (d : FlowsData) (starts : List Use) (l : ColumnLine) → slice_get starts l.depth ≡ None
    → starts ≡ starts_after d starts l
starts-stay d starts l none = ap (λ (o : Option Use). starts_behind d starts l o) (sym none)

-- a row of this many
abbrev pub IsRow : ℕ → Use → Type 0
IsRow n u = u.0 < n

pub known-at : (n : ℕ) (starts : List Use) (k : ℕ) (u : Use) → slice_get starts k ≡ Some u → All (λ (v : Use). v.0 < n) starts
    → u.0 < n
known-at n [] k u at all = absurd cc
known-at n (v ∷ starts) zero u at all =
    let same : v ≡ u = cc in subst (IsRow n) same (All-head (IsRow n) v starts all)
known-at n (v ∷ starts) (suc k) u at all = known-at n starts k u at (All-tail (IsRow n) v starts all)

pub known-listed : (n : ℕ) (inner : Option Use) → IfSome inner (λ (u : Use). u.0 < n) → All (λ (v : Use). v.0 < n) (listed inner)
known-listed n None is = All-nil (IsRow n)
known-listed n (Some u) is = All-cons (IsRow n) u [] is (All-nil (IsRow n))

pub known-next : (n : ℕ) (u : Use) (end : Option Token) → u.0 < n → (next_start u end).0 < n
known-next n u None is = is
known-next n u (Some end) is = is

pub known-after : (n : ℕ) (starts new : List Use) (l : ColumnLine) (u next : Use) (inner : Option Use)
    → slice_get starts l.depth ≡ Some u → next ≡ next_start u l.end → IfSome inner (λ (v : Use). v.0 < n)
    → new ≡ (take l.depth starts ++ next ∷ []) ++ listed inner → All (λ (v : Use). v.0 < n) starts
    → All (λ (v : Use). v.0 < n) new
known-after n starts new l u next inner at is row so all =
    let own : next.0 < n = subst (IsRow n) (sym is) (known-next n u l.end (known-at n starts l.depth u at all)) in
    subst (All (IsRow n)) (sym so)
    (All-append (IsRow n) (take l.depth starts ++ next ∷ []) (listed inner)
    (All-push (IsRow n) (take l.depth starts) next (All-take (IsRow n) l.depth starts all) own) (known-listed n inner row))

pub ruleset start_rules = (starts-stay)
