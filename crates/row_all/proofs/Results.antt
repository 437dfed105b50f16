-- What is so of an answer that is Ok.
use Rattle.std.proofs.Common.{Result, Ok, Err, IfOk, OnOk}

pub ok-map : {X E : Type 0} (r : Result X E) (P Q : X → Type 0) → ((x : X) → P x → Q x) → IfOk r P → IfOk r Q
ok-map (Ok x) P Q each p = each x p
ok-map (Err e) P Q each p = tt

pub on-ok : {X E : Type 0} (r : Result X E) (P Q : Type 0) → (P → Q) → OnOk r P → OnOk r Q
on-ok (Ok x) P Q each p = each p
on-ok (Err e) P Q each p = tt
