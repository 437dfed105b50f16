-- Nodes in pages: full ones, and the one that is being filled.
use Rattle.std.specs.Prelude.{◌≡◌, ℕ, ◌≤◌, List, [], ◌∷◌, ◌++◌, length, Vec}
use Rattle.std.specs.declared.alloc.Global.{Global}
use Rattle.mc_base.specs.declared.fragment.Node.{Node}

-- the nodes of these pages, one after another, and then those of the last page
abbrev pub paged : List (Vec Node Global) → List Node → List Node
paged [] last = last
paged (page ∷ pages) last = page.items ++ paged pages last

-- full pages have 256 nodes each
abbrev pub AreFull : List (Vec Node Global) → Type 0
AreFull [] = Unit {0}
AreFull (page ∷ pages) = (length page.items ≡ 256) × AreFull pages

-- full pages, a last one that has at most 256 nodes, and so many nodes in all
pub record ArePages (pages : List (Vec Node Global)) (page : List Node) (number : ℕ) : Type 0 where
  pub full : AreFull pages
  pub last : length page ≤ 256
  pub count : number ≡ length (paged pages page)
