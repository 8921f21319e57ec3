use Rattle.disk.proofs.account.Account.risk.Goals as goal

pub returns-in-Ok-clause-risks : goal.returns-in-Ok-clause-risks
returns-in-Ok-clause-risks c = record {
  crash = c.note.ensures.risks.crash;
  torn = c.in-Ok.ensures.risks.torn;
  refused = tt;
}
