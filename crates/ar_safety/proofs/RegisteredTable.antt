-- In the run in which a client accepts a certificate, the table with its registration is agreed.
use Rattle.std.proofs.Common.{◌≡◌, inl, [], ◌∷◌, refl, sym, subst, arith, Some}
use Rattle.std.specs.Prelude.{Contains}
use Rattle.domain_table.specs.Applying.{apply}
use Rattle.domain_table.specs.Tables.{no_table}
use Rattle.domain_table.specs.Tree.{root_of}
use Rattle.epoch_log.specs.declared.entries.How.{How}
use Rattle.epoch_log.specs.declared.entries.How.TheVariants.{Decided}
use Rattle.ar_safety.specs.Agreed.{Agreed, HasChange}
use Rattle.ar_safety.specs.Records.{IsHonestLog}
use Rattle.ar_safety.specs.RegisteredRun.{a_name, one_table, registered_run, registration}
use Rattle.ar_safety.proofs.ExampleLogs.{base-one, first-ending}
use Rattle.ar_safety.proofs.OneName.{applied-one, chain-is}
use Rattle.ar_safety.proofs.RegisteredRun.{run-honest, run-premises}
use Rattle.ar_safety.proofs.Votes.{decided-backed}

end : How
end = Decided (registration ∷ []) (root_of one_table)

first-honest : IsHonestLog registered_run 0
first-honest = record { known = omega arith; honest = refl }

table-agreed : Agreed registered_run 1 one_table
unfolding end
table-agreed = record {
  log = 0;
  honest = first-honest;
  ballot = record { epoch = 1; base = root_of no_table; changes = registration ∷ []; root = root_of one_table };
  is_cast = (0, omega arith, refl);
  of_epoch = refl;
  leads = subst (λ t. apply t 1 (registration ∷ []) ≡ Some one_table) (sym (base-one end)) applied-one;
  is_root = refl;
  backed = decided-backed registered_run run-honest run-premises.1.0 0 first-honest 1 (registration ∷ []) (root_of one_table) (first-ending end);
}

pub run-registered : Agreed registered_run 1 one_table × HasChange one_table a_name registration
run-registered = (table-agreed, inl (subst (λ chain. Contains chain registration) (sym chain-is) (0, omega arith, refl)))
