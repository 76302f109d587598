-- What a variable without a fault doesn't have.
use Rattle.std.proofs.Common.{◌≡◌, refl, Bool, true, false}
use Rattle.std.specs.Prelude.{Option, None, Some, cond}
use Rattle.trex_vars.specs.declared.faults.VarFault.{VarFault}
use Rattle.trex_vars.specs.Check.{fault_of, has_size_fault, has_wide_fault, has_order_fault, has_init_fault, has_list_fault, has_limit_fault}
use Rattle.trex_vars.specs.Variable.{Variable}

-- a variable without any fault
pub record HasNoFault (variable : Variable) : Type 0 where
  pub size : has_size_fault variable ≡ false
  pub wide : has_wide_fault variable ≡ false
  pub order : has_order_fault variable ≡ false
  pub init : has_init_fault variable ≡ false
  pub list : has_list_fault variable ≡ false
  pub limit : has_limit_fault variable ≡ false

passes : (b : Bool) (fault : VarFault) (rest : Option VarFault) → cond b (Some fault) rest ≡ None → (b ≡ false) × (rest ≡ None)
passes true fault rest e = cc
passes false fault rest e = (refl, e)

pub no_fault : (variable : Variable) → fault_of variable ≡ None → HasNoFault variable
no_fault variable e =
    let a = passes (has_size_fault variable) _ _ e in
    let b = passes (has_wide_fault variable) _ _ a.1 in
    let c = passes (has_order_fault variable) _ _ b.1 in
    let d = passes (has_init_fault variable) _ _ c.1 in
    let f = passes (has_list_fault variable) _ _ d.1 in
    let g = passes (has_limit_fault variable) _ _ f.1 in
    record { size = a.0; wide = b.0; order = c.0; init = d.0; list = f.0; limit = g.0 }
