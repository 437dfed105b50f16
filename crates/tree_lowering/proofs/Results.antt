-- What is so of an answer that is Ok.
use Rattle.std.proofs.Common.{Result, Ok, Err, IfOk, OnOk}

pub ok-map : {X E : Type 0} (r : Result X E) (P Q : X → Type 0) → ((x : X) → P x → Q x) → IfOk r P → IfOk r Q
ok-map (Ok x) P Q each p = each x p
ok-map (Err e) P Q each p = tt

pub on-ok : {X E : Type 0} (r : Result X E) (P Q : Type 0) → (P → Q) → OnOk r P → OnOk r Q
on-ok (Ok x) P Q each p = each p
on-ok (Err e) P Q each p = tt

pub on-always : {X E : Type 0} (r : Result X E) (P : Type 0) → P → OnOk r P
on-always (Ok x) P p = p
on-always (Err e) P p = tt

-- for each c
pub ok-each : {X E C : Type 0} (r : Result X E) (P : C → X → Type 0) → ((c : C) → IfOk r (P c)) → IfOk r (λ x. (c : C) → P c x)
ok-each (Ok x) P each = each
ok-each (Err e) P each = tt

pub on-each : {X E C : Type 0} (r : Result X E) (P : C → Type 0) → ((c : C) → OnOk r (P c)) → OnOk r ((c : C) → P c)
on-each (Ok x) P each = each
on-each (Err e) P each = tt
