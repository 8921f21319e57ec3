use Rattle.std.proofs.Common.{◌≡◌, ◌+◌, ◌++◌, ◌∷◌, [], arith, inl, length, List, refl, subst, sym, ℕ}
use Rattle.std.proofs.lemmas.Result.{err_from_is_err_and}
use Rattle.disk.specs.Crashes.{LeavesOnly}
use Rattle.disk_shelf.specs.Logs.{IsLoggedTo, OldOrNewLog, Opens}
use Rattle.disk_shelf.proofs.Moments.{started}
use Rattle.disk_shelf.proofs.Quiet.{some_no_none}
use Rattle.disk_shelf.proofs.Saves.{done_save, failed_save, unwritten_save}
use Rattle.disk_journal.proofs.Refusals.{disk_no_large, memory_no_large}
use Rattle.disk_journal.proofs.Values.{kept_more}
use Rattle.disk_journal.proofs.journal.Journal.append.Given as given
use Rattle.disk_journal.proofs.journal.Journal.append.Goals as goal
use Rattle.disk_journal.proofs.journal.Journal.append.Goals.{After-checked_add}

-- nothing was written yet
unwritten : (g : given.Over) (c : After-checked_add g) (image : List ℕ) (batches : List (List ℕ)) →
    Opens image batches (g.D.Disk.seen c.args.self.now.disk) →
    LeavesOnly g.D.Disk.moment g.D.Disk.left_since c.args.self.now.disk c.args.self.now.disk
    (OldOrNewLog image batches image (batches ++ c.args.batch.now ∷ []))
unwritten g c image batches opens =
    let was = c.args.self.now.disk in
    let kept = c.args.self.now.kept c.requires.ready in
    started (λ x left. inl (subst (λ s. Opens image batches s)
    (sym (kept.only x (g.met.D.Disk.only_now was x left))) opens))

pub invariant_of-self-2 : goal.invariant_of-self-2
invariant_of-self-2 g c =
    let kept = c.args.self.now.kept c.requires.ready in
    let in_b = c.args.self.now.tail.in_b in
    let next : c.args.end + 9 + length c.args.batch.now ≡ c.in-Some.next =
    omega (arith, c.in-Some.ensures.1) in
    record {
      kept = λ _. kept_more c.args.batch.now kept.selected kept.behind c.requires.end
          (subst (IsLoggedTo g.D.Disk.seen g.D.Disk.may_leave c.extend.new.disk in_b) next
          c.in_ok-extend.ensures.logged) c.in_ok-extend.ensures.added;
      plain = λ plain. absurd (some_no_none c.requires.end (c.args.self.now.plain plain).0);
    }

pub invariant_of-self : goal.invariant_of-self
invariant_of-self g c = record {
  kept = λ ready. absurd cc;
  plain = λ plain. absurd (some_no_none c.requires.end (c.args.self.now.plain plain).0);
}

pub returns-in_default : goal.returns-in_default
returns-in_default g c = record {
  added = tt;
  any_moment = unwritten g (goal.at.returns-in_default g c).After-checked_add;
  after = unwritten_save c.requires.ready (inl refl);
  not_large = memory_no_large;
  logs = refl;
}

pub returns-in_err-bytes : goal.returns-in_err-bytes
returns-in_err-bytes g c =
    let p = err_from_is_err_and c.from_residual.result c.from_residual.ensures.1 in
    rw (p.1, p.2) (record {
      added = tt;
      any_moment = unwritten g (goal.at.returns-in_err-bytes g c).After-checked_add;
      after = unwritten_save c.requires.ready (inl refl);
      not_large = memory_no_large;
      logs = refl;
    })

pub returns-in_err-extend : goal.returns-in_err-extend
returns-in_err-extend g c =
    let exit = c.from_residual-in_err-extend in
    let p = err_from_is_err_and exit.result exit.ensures.1 in
    rw (p.1, p.2) (record {
      added = tt;
      any_moment = c.extend.ensures.any_moment;
      after = failed_save c.requires.ready (c.in_err-extend.ensures.cause.failed refl) refl;
      not_large = disk_no_large;
      logs = refl;
    })

pub returns : goal.returns
returns g c = record {
  added = c.in_ok-extend.ensures.added;
  any_moment = c.extend.ensures.any_moment;
  after = done_save c.requires.ready refl;
  not_large = tt;
  logs = refl;
}
