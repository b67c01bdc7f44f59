use Rattle.std.proofs.Common.{rules, sym, ap, ◌∙◌}
use Rattle.ar_base.specs.Gives.{with_error}
use Rattle.ar_lines.specs.Readings.{LineCursor}
use Rattle.ar_lines.specs.declared.refusal.LineFault.TheVariants.{Refused}
use Rattle.serve_run.specs.Reading.{service_at}
use Rattle.serve_run.proofs.ChallengeLines.{service_gives_up, service_ok}
use Rattle.serve_run.proofs.reading.Service.read.Goals as goal

pub returns-in_err-challenges : goal.returns-in_err-challenges
returns-in_err-challenges c =
    let fails = service_gives_up _ _ _ _ _ _ _ _ c.in_ok-secret.ensures c.in_ok-name.ensures c.in_ok-certificate.ensures c.in_err-challenges.ensures in
    search (rules, fails)

pub returns : goal.returns
returns c =
    ap (λ (at : LineCursor). with_error Refused (service_at at)) (sym c.new-lines.ensures)
    ∙ service_ok _ _ _ _ _ _ _ _ c.in_ok-secret.ensures c.in_ok-name.ensures c.in_ok-certificate.ensures c.in_ok-challenges.ensures
