-- What is kept of fills (this project's own).
use Rattle.std.specs.Prelude.{ℕ, ◌&&◌, ◌==◌, Bool, List, [], ◌∷◌, Option, nat_eq}
use Rattle.std.specs.Cmp.Lexicographic.{pointwise}
use Rattle.std.specs.Map.{lookup}
use Rattle.mc_base.specs.declared.fragment.FragId.{FragId}
use Rattle.flow_data.specs.declared.data.FlowsData.{FlowsData}
use Rattle.flow_list.specs.Book.{AllStand}
use Rattle.flow_list.specs.Entries.{uses_in}
use Rattle.flow_list.specs.Folds.{fill_told}
use Rattle.flow_list.specs.Rows.{all_rows}
use Rattle.flow_list.specs.Tokens.{Token}
use Rattle.flow_list.specs.declared.book.SizeEntry.{SizeEntry}
use Rattle.frag_pool.specs.Nodes.{Nodes}
use Rattle.frag_pool.specs.Standing.{StandsFor}
use Rattle.inner_rows.specs.Filling.{IsFilled, fill_tree}
use Rattle.inner_rows.specs.declared.inner.Filled.{Filled}
use Rattle.inner_rows.specs.Keeping.{IsKeptFill}
use Rattle.kept_fills.specs.declared.key.FillKey.{FillKey}
use Rattle.kept_fills.specs.declared.store.KeptFills.{KeptFills}

-- whether two keys are equal
abbrev pub same_key : FillKey → FillKey → Bool
same_key a b = ((a.row == b.row) && (a.height == b.height)) && pointwise nat_eq a.from b.from

-- what is kept of row r from place q on at height h
abbrev pub kept_at : KeptFills → (r : ℕ) → (q : Token) → (h : ℕ) → Option Filled
kept_at kept r q h = lookup (same_key (record { row = r; height = h; from = q })) kept.fills.entries

-- each is a kept fill of its row, place and height
abbrev pub EachIsKept : FlowsData → List SizeEntry → Nodes → List (FillKey × Filled) → Type 0
EachIsKept d book p [] = Unit {0}
EachIsKept d book p (e ∷ es) = IsKeptFill d book p e.0.row e.0.from e.0.height e.1 × EachIsKept d book p es

-- what is kept for these flows, this book and this region
abbrev pub AreKept : FlowsData → List SizeEntry → Nodes → KeptFills → Type 0
AreKept d book p kept = EachIsKept d book p kept.fills.entries

-- a fill with this fragment in place of its own
abbrev pub with_frag : Filled → FragId → Filled
with_frag fill id = record {
  end = fill.end;
  at_end = fill.at_end;
  level = fill.level;
  overflow = fill.overflow;
  short = fill.short;
  lines = fill.lines;
  frag = id;
}

-- What row r makes of height h from place q on: the sizes that it uses stand in the book, and its fragment is a live node.
pub record IsMade (d : FlowsData) (book : List SizeEntry) (p : Nodes) (r : ℕ) (q : Token) (h : ℕ) (out : Filled) : Type 0 where
  pub told : IsFilled (fill_told (all_rows d) d r q h) out
  pub uses : AllStand (uses_in book) ((all_rows d).fill r q h).uses
  pub frag : StandsFor p out.frag (fill_tree d r q h)
