-- What a call that may be out of memory leaves, where another came before it.
use Rattle.std.proofs.Common.{Result, Ok, Err, IfOk, OnOk, OnErr, ◌≡◌, ℕ, List}
use Rattle.flow_data.specs.declared.data.FlowsData.{FlowsData}
use Rattle.flow_list.specs.Book.{after_uses}
use Rattle.flow_list.specs.Certificate.{Use}
use Rattle.flow_list.specs.Tokens.{Token}
use Rattle.frag_pool.specs.Growing.{Grows}
use Rattle.frag_pool.specs.Nodes.{Nodes, SameTrial}
use Rattle.frag_pool.proofs.Growth.{grows-same-trial, grows-trans, same-trial-trans}
use Rattle.range_laws.specs.Entering.{UsesEnter}
use Rattle.piece_finder.specs.Finding.{IsFound}
use Rattle.piece_finder.specs.Telling.{told_ranges}
use Rattle.piece_finder.specs.Using.{made_uses, piece_uses, searched_uses}
use Rattle.piece_finder.specs.declared.search.Found.{Found}
use Rattle.piece_finder.proofs.Uses.{all-used}

pub on-err : {A E P : Type 0} (r : Result A E) → P → OnErr r P
on-err (Ok x) p = tt
on-err (Err y) p = p

pub grows-after : {A E : Type 0} (r : Result A E) (p q s : Nodes) → SameTrial p q → OnOk r (Grows q s) → OnOk r (Grows p s)
grows-after (Ok x) p q s same grows = grows-trans p q s (grows-same-trial p q same) grows
grows-after (Err y) p q s same grows = tt

pub refused-after : {A E : Type 0} (r : Result A E) (p q s : Nodes) → SameTrial p q → OnErr r (SameTrial q s) →
    OnErr r (SameTrial p s)
refused-after (Ok x) p q s same then = tt
refused-after (Err y) p q s same then = same-trial-trans p q s same then

-- the sizes that a search enters after those of the columns at the piece's own height
pub uses-after : {E : Type 0} (d : FlowsData) → UsesEnter d → (r : ℕ) (q : Token) (a : ℕ) (old now new : List Use)
    (out : Result Found E) → now ≡ after_uses d old (made_uses d r q a) → IfOk out (IsFound d r q a) →
    IfOk out (λ found. new ≡ after_uses d now (searched_uses d r q (told_ranges found.ranges) found.height)) →
    OnOk out (new ≡ after_uses d old (piece_uses d r q a))
uses-after d law r q a old now new (Ok found) before is used =
    all-used d law r q a found.height old now new found.ranges before used is.reasons is.height
uses-after d law r q a old now new (Err y) before is used = tt
