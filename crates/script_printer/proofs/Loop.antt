-- The lines of a script one after the other.
use Rattle.std.proofs.Common.{◌≡◌, ℕ, ◌+◌, ◌<◌, ◌≤◌, List, ◌++◌, length, take, drop, get_or, sym, ap, ◌∙◌, subst, arith}
use Rattle.std.proofs.Common.{◌⊎◌, inl, inr}
use Rattle.std.specs.Prelude.{sum_by}
use Rattle.std.proofs.lemmas.List.{drop_more, take-append-drop, take_all, take_more}
use Rattle.std.proofs.lemmas.List.Sums.{sum_by-cons}
use Rattle.mc_base.specs.declared.refusal.Refusal.{Refusal}
use Rattle.mc_base.specs.declared.refusal.Refusal.TheVariants.{NoMemory}
use Rattle.html_grammar.specs.declared.dom.Dom.{Dom}
use Rattle.html_grammar.specs.Tree.{Forest}
use Rattle.edit_script.specs.declared.script.ScriptLine.{ScriptLine}
use Rattle.script_runs.specs.Room.{HasRoomFor, line_bytes}
use Rattle.mc_session.specs.Session.{Asked}
use Rattle.script_runs.specs.Runs.{State, Does, IsStopped, Runs, Stops, Prints, begun}
use Rattle.script_runs.proofs.Turns.{runs_more, stops_at}
use Rattle.script_printer.specs.Shown.{Setting, Shows, Denies}
use Rattle.script_printer.specs.Parts.{Stands}

pub fewer : (m n : ℕ) (dom : Dom) → m ≤ n → HasRoomFor n dom → HasRoomFor m dom
fewer m n dom le room = record {
  formed = room.formed;
  count = omega (arith, le, room.count);
  bytes = omega (arith, le, room.bytes);
}

-- the bytes of the lines that are left
pub left_sum : (lines : List ScriptLine) (i : ℕ) (d : ScriptLine) → i < length lines
    → sum_by line_bytes (drop i lines) ≡ line_bytes (get_or lines i d) + sum_by line_bytes (drop (i + 1) lines)
left_sum lines i d within =
    ap (sum_by line_bytes) (drop_more lines i d within) ∙ sum_by-cons line_bytes (get_or lines i d) (drop (i + 1) lines)

-- there is room for the edit of the next line
pub room_here : (lines : List ScriptLine) (i : ℕ) (d : ScriptLine) (dom : Dom) → i < length lines
    → HasRoomFor (sum_by line_bytes (drop i lines)) dom → HasRoomFor (line_bytes (get_or lines i d)) dom
room_here lines i d dom within room =
    fewer (line_bytes (get_or lines i d)) (sum_by line_bytes (drop i lines)) dom
    (omega (arith, left_sum lines i d within)) room

pub ran_on : (S : Forest → List ℕ → Type 0) (lines : List ScriptLine) (i : ℕ) (d : ScriptLine) (first before now : State)
    → i < length lines → Runs S (take i lines) first before → Does S (get_or lines i d).step before now
    → Runs S (take (i + 1) lines) first now
ran_on S lines i d first before now within ran does =
    subst (λ ls. Runs S ls first now) (sym (take_more lines i d within))
    (runs_more S (take i lines) (get_or lines i d) first before now ran does)

pub stopped_here : (S : Forest → List ℕ → Type 0) (D : Forest → Refusal → Type 0) (lines : List ScriptLine) (i : ℕ)
    (d : ScriptLine) (first before : State) (refusal : Refusal) → i < length lines → Runs S (take i lines) first before
    → IsStopped S D (get_or lines i d).at (get_or lines i d).step before refusal → Stops S D lines first refusal
stopped_here S D lines i d first before refusal within ran stops =
    subst (λ ls. Stops S D ls first refusal)
    (ap (λ ls. take i lines ++ ls) (sym (drop_more lines i d within)) ∙ take-append-drop i lines)
    (stops_at S D (take i lines) (get_or lines i d) (drop (i + 1) lines) first before refusal ran stops)

-- ---- a turn of the loop

-- what the lines before one left
abbrev pub LeftOff : Setting → List ScriptLine → Forest → Asked → List ℕ → Type 0
LeftOff with lines tree asked printed =
    (state : State) × Runs (Shows with) lines (begun tree) state × Stands asked printed state

pub goes_on : (with now : Setting) (lines : List ScriptLine) (i : ℕ) (d line : ScriptLine) (tree : Forest)
    (asked new : Asked) (printed more : List ℕ) → i < length lines → line ≡ get_or lines i d → now ≡ with
    → LeftOff with (take i lines) tree asked printed
    → ((state : State) → Stands asked printed state
    → (next : State) × Does (Shows now) line.step state next × Stands new more next)
    → LeftOff with (take (i + 1) lines) tree new more
goes_on with now lines i d line tree asked new printed more within is same left done =
    let next = done left.0 left.2 in
    let does : Does (Shows with) (get_or lines i d).step left.0 next.0 =
    subst (λ (l : ScriptLine). Does (Shows with) l.step left.0 next.0) is
    (subst (λ s. Does (Shows s) line.step left.0 next.0) same next.1) in
    (next.0, ran_on (Shows with) lines i d (begun tree) left.0 next.0 within left.1 does, next.2)

pub stops : (with now : Setting) (lines : List ScriptLine) (i : ℕ) (d line : ScriptLine) (tree : Forest) (asked : Asked)
    (printed : List ℕ) (e : Refusal) → i < length lines → line ≡ get_or lines i d → now ≡ with
    → LeftOff with (take i lines) tree asked printed
    → ((state : State) → Stands asked printed state
    → (e ≡ NoMemory) ⊎ IsStopped (Shows now) (Denies now) line.at line.step state e)
    → (e ≡ NoMemory) ⊎ Stops (Shows with) (Denies with) lines (begun tree) e
stops with now lines i d line tree asked printed e within is same left refused = by (refused left.0 left.2)
  where
    by : (e ≡ NoMemory) ⊎ IsStopped (Shows now) (Denies now) line.at line.step left.0 e
        → (e ≡ NoMemory) ⊎ Stops (Shows with) (Denies with) lines (begun tree) e
    by (inl none) = inl none
    by (inr why) =
        inr (stopped_here (Shows with) (Denies with) lines i d (begun tree) left.0 e within left.1
        (subst (λ (l : ScriptLine). IsStopped (Shows with) (Denies with) l.at l.step left.0 e) is
        (subst (λ s. IsStopped (Shows s) (Denies s) line.at line.step left.0 e) same why)))

-- the room that the next line leaves
pub room_left : (lines : List ScriptLine) (i : ℕ) (d line : ScriptLine) (dom : Dom) → i < length lines
    → line ≡ get_or lines i d → HasRoomFor (sum_by line_bytes (drop i lines)) dom
    → HasRoomFor (line_bytes line + sum_by line_bytes (drop (i + 1) lines)) dom
room_left lines i d line dom within is room =
    subst (λ n. HasRoomFor n dom)
    (left_sum lines i d within ∙ ap (λ (l : ScriptLine). line_bytes l + sum_by line_bytes (drop (i + 1) lines)) (sym is)) room

-- all lines ran
pub all_ran : (with : Setting) (lines : List ScriptLine) (i : ℕ) (tree : Forest) (asked : Asked) (printed : List ℕ)
    → length lines ≤ i → LeftOff with (take i lines) tree asked printed → Prints (Shows with) lines tree printed
all_ran with lines i tree asked printed past left = (
  left.0,
  subst (λ ls. Runs (Shows with) ls (begun tree) left.0) (take_all i lines past) left.1,
  left.2.printed_is,
)
