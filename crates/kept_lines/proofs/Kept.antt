-- What is kept stays right, place by place.
use Rattle.std.proofs.Common.{◌≡◌, Bool, true, false, cond, Option, Some, None, Bor, sym, subst}
use Rattle.std.specs.Prelude.{IfSome}
use Rattle.std.specs.Option.{option_copied}
use Rattle.kept_lines.specs.declared.run.KeptRun.{KeptRun}

module _ (P : KeptRun → Type 0) where
  pub copied : (r : Option (Bor KeptRun)) → IfSome (option_copied r) P → IfSome r (λ kept. P kept.now)
  copied None is = tt
  copied (Some kept) is = is

  -- where one is taken out
  pub left : (t : Bool) (o : Option KeptRun) → IfSome o P → IfSome (cond t None o) P
  left true o is = tt
  left false o is = is

  -- where one is put in
  pub put : (t : Bool) (o : Option KeptRun) (kept : KeptRun) → P kept → IfSome o P → IfSome (cond t (Some kept) o) P
  put true o kept new is = new
  put false o kept new is = is

  pub same_option : (o n : Option KeptRun) → n ≡ o → IfSome o P → IfSome n P
  same_option o n e is = subst (λ x. IfSome x P) (sym e) is
