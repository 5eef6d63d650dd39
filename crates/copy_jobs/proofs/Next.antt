-- The job that writes next
use Rattle.std.proofs.Common.{◌≡◌, ℕ, List, [], ◌∷◌, length, min, refl, ap, sym, ◌∙◌, true, false, Bool}
use Rattle.std.specs.Prelude.{◌||◌, ◌&&◌, Option, Some, None, find, cond, ◌-◌}
use Rattle.std.specs.Option.{option_map}
use Rattle.std.specs.List.{list_any}
use Rattle.lba_ranges.specs.HeldBlocks.{HeldBlocks}
use Rattle.cm_history.specs.Bounds.{piece_blocks}
use Rattle.copy_jobs.specs.declared.key.Key.{Key}
use Rattle.copy_jobs.specs.declared.job.Job.{Job}
use Rattle.copy_jobs.specs.declared.job.Work.{Work}
use Rattle.copy_jobs.specs.declared.job.Work.TheVariants.{Populated, Writing, Copying}
use Rattle.copy_jobs.specs.declared.piece.NextPiece.{NextPiece}
use Rattle.copy_jobs.specs.Jobs.{has_key, is_running, runs_as}
use Rattle.copy_jobs.specs.inner.Jobs.{is_copying}
use Rattle.copy_jobs.specs.Pieces.{is_foreground, is_background, is_next, piece_length, next_length, IsNextPiece}
use Rattle.copy_jobs.specs.inner.Pieces.{is_writing, IsPieceOf}
use Rattle.copy_jobs.specs.Tables.{KeysApart}
use Rattle.copy_jobs.specs.inner.Tables.{IsJob}
use Rattle.copy_jobs.proofs.Lists.{or_first, or_later}
use Rattle.copy_jobs.proofs.SameKeys.{same_key-sym, same_key-refl}
use Rattle.cm_history.proofs.PublicLaws.{and_first, and_second}
use Rattle.copy_jobs.proofs.Found.{find-any, find-passes}
use Rattle.copy_jobs.proofs.Cuts.{length-cut}

pub next-runs : (key : Option Key) (job : Job) → is_next key job ≡ true → is_running job ≡ true
next-runs (Some key) job e = and_first (is_running job) (has_key key job) (and_first (runs_as key job) (is_foreground job.work) e)
next-runs None job e = and_first (is_running job) (is_background job.work) e

-- none of the jobs has the key, and so not the one that is found
pub other-key : (test : Job → Bool) (key : Key) (jobs : List Job) (job : Job) → list_any (has_key key) jobs ≡ false → find test jobs ≡ Some job → has_key key job ≡ false
other-key test key [] job fresh e = cc
other-key test key (x ∷ xs) job fresh e = go (test x) e (other-key test key xs job (or_later (has_key key x) (list_any (has_key key) xs) fresh))
  where
    go : (t : Bool) → cond t (Some x) (find test xs) ≡ Some job → (find test xs ≡ Some job → has_key key job ≡ false) → has_key key job ≡ false
    go true f later = let same : x ≡ job = cc in rw (← same) (or_first (has_key key x) (list_any (has_key key) xs) fresh)
    go false f later = later f

-- a job that runs is the first one that runs as its key
pub alone : (test : Job → Bool) (jobs : List Job) (job : Job) → KeysApart jobs → find test jobs ≡ Some job → is_running job ≡ true → find (runs_as job.key) jobs ≡ Some job
alone test [] job a e runs = cc
alone test (x ∷ xs) job a e runs = go (test x) e (alone test xs job a.1)
  where
    go : (t : Bool) → cond t (Some x) (find test xs) ≡ Some job → (find test xs ≡ Some job → is_running job ≡ true → find (runs_as job.key) xs ≡ Some job)
        → cond (is_running x && has_key job.key x) (Some x) (find (runs_as job.key) xs) ≡ Some job
    go true f later =
        let same : x ≡ job = cc in
        let keyed : has_key job.key job ≡ true = same_key-refl job.key in
        rw (same, runs, keyed) refl
    go false f later =
        let other : has_key job.key x ≡ false = same_key-sym job.key x.key ∙ other-key test x.key xs job a.0 f in
        let off : (is_running x && has_key job.key x) ≡ false = and-none (is_running x) (has_key job.key x) other in
        rw off (later f runs)
      where
        and-none : (a b : Bool) → b ≡ false → (a && b) ≡ false
        and-none true b h = h
        and-none false b h = refl

pub next-is : (key : Option Key) (jobs : List Job) (job : Job) (piece : NextPiece) → KeysApart jobs → find (is_next key) jobs ≡ Some job → IsJob job
    → IsPieceOf job piece → IsNextPiece key jobs piece
next-is key jobs job piece a e kept is =
    let runs = next-runs key job (find-passes (is_next key) jobs job e) in
    let first : find (runs_as piece.key) jobs ≡ Some job = ap (λ k. find (runs_as k) jobs) is.named ∙ alone (is_next key) jobs job a e runs in
    let told : next_length piece.key jobs ≡ Some (piece_length job.work) = ap (option_map (λ (j : Job). piece_length j.work)) first in
    let size : piece_length job.work ≡ min piece_blocks (length is.write.rod.items - is.write.written) = ap piece_length is.work in
    let long : length piece.list.items ≡ min piece_blocks (length is.write.rod.items - is.write.written) =
    ap (λ (l : HeldBlocks). length l.items) is.next.list ∙ length-cut is.write.written piece_blocks is.write.rod.items in
    record {
      job = job;
      write = is.write;
      found = e;
      runs = first;
      busy = find-any (runs_as piece.key) jobs job first;
      named = is.named;
      token = ap (λ (k : Key). k.copy) is.named ∙ kept.kind ∙ ap is_copying is.work;
      work = is.work;
      next = is.next;
      counted = told ∙ ap Some (size ∙ sym long);
    }

-- the length of a piece is told of a job that runs
pub told-busy : (key : Key) (jobs : List Job) (blocks : ℕ) → next_length key jobs ≡ Some blocks → list_any (runs_as key) jobs ≡ true
told-busy key [] blocks e = cc
told-busy key (x ∷ xs) blocks e = go (runs_as key x) e (told-busy key xs blocks)
  where
    go : (t : Bool) → option_map (λ (j : Job). piece_length j.work) (cond t (Some x) (find (runs_as key) xs)) ≡ Some blocks
        → (next_length key xs ≡ Some blocks → list_any (runs_as key) xs ≡ true) → (t || list_any (runs_as key) xs) ≡ true
    go true f later = refl
    go false f later = later f

-- a job that is to write writes
pub next-writes : (key : Option Key) (job : Job) → is_next key job ≡ true → is_writing job.work ≡ true
next-writes (Some key) job e = of job.work (and_second (runs_as key job) (is_foreground job.work) e)
  where
    of : (work : Work) → is_foreground work ≡ true → is_writing work ≡ true
    of (Populated serial blocks) h = cc
    of (Writing write) h = refl
    of (Copying result) h = cc
next-writes None job e = of job.work (and_second (is_running job) (is_background job.work) e)
  where
    of : (work : Work) → is_background work ≡ true → is_writing work ≡ true
    of (Populated serial blocks) h = cc
    of (Writing write) h = refl
    of (Copying result) h = cc
