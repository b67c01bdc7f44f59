use Rattle.process_safety.proofs.Agreeing.{still-agreed, still-newest, still-none}
use Rattle.process_safety.proofs.laws.what_is_agreed_is_so_for_each_client.Goals as goal

pub returns : goal.returns
returns c = record { agreed = still-agreed; newest = still-newest; none = still-none }
