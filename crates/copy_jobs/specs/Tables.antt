-- What is true of each table of jobs
use Rattle.std.specs.Prelude.{◌≡◌, List, [], ◌∷◌, false, ⊤}
use Rattle.std.specs.List.{list_any}
use Rattle.copy_jobs.specs.declared.job.Job.{Job}
use Rattle.copy_jobs.specs.Jobs.{has_key}

-- no later job has the key of an earlier one
abbrev pub KeysApart : List Job → Type 0
KeysApart [] = ⊤
KeysApart (job ∷ jobs) = (list_any (has_key job.key) jobs ≡ false) × KeysApart jobs
