use Rattle.std.proofs.Common.{refl, sym, ◌∙◌}
use Rattle.std.specs.Option.{option_map}
use Rattle.std.specs.Map.Iter.{deref_pair}
use Rattle.copy_jobs.proofs.Entries.{first-runs}
use Rattle.copy_jobs.proofs.records.first_runs.Goals as goal

pub returns-in-Some : goal.returns-in-Some
returns-in-Some c = c.is_running.ensures ∙ sym (first-runs c.args.works.now.entries (option_map deref_pair c.peek_lru.result) c.peek_lru.ensures ∙ rw c.in-Some.is refl)

pub returns-in-None : goal.returns-in-None
returns-in-None c = sym (first-runs c.args.works.now.entries (option_map deref_pair c.peek_lru.result) c.peek_lru.ensures ∙ rw c.in-None.is refl)
