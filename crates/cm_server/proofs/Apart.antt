-- Of a nexus that is new no two entries have one stamp
use Rattle.std.proofs.Common.{◌≡◌, ◌∙◌, ℕ, List, [], sym, inl, inr, true, arith}
use Rattle.std.specs.Prelude.{◌<◌, ◌⊎◌, ◌≢◌, Contains}
use Rattle.std.proofs.lemmas.List.Elements.{All-contains, filter_passes}
use Rattle.std.proofs.lemmas.List.Kept.{AllPairs-filter}
use Rattle.cm_history.proofs.PublicLaws.{same_actor-is}
use Rattle.cm_history.specs.declared.act.Actor.{Actor}
use Rattle.cm_history.specs.declared.act.Entry.{Entry}
use Rattle.cm_server.specs.Lawful.{IsNewTo}
use Rattle.cmd_program.specs.Conversations.{AreApart}
use Rattle.cmd_program.specs.InHistory.{entries_by, is_by}
use Rattle.merged_history.specs.Merged.{RiseByActor, RiseBehind}

pub rise-behind : (entries : List Entry) → RiseByActor entries → RiseBehind [] entries
rise-behind entries rise = λ i j d lt within same. inr (inr (rise i j d lt within same))

pub apart-own : (nexus : ℕ) (first entries : List Entry) → RiseBehind first entries → IsNewTo first nexus → AreApart (entries_by nexus entries)
apart-own nexus first entries rise new =
    let kept = AllPairs-filter Own (is_by nexus) entries (λ i j d lt within. own _ _ (rise i j d lt within)) in
    λ i j d lt within same is.
    let less = kept i j d lt within (filter_passes (is_by nexus) entries i d (omega (arith, lt, within))) (filter_passes (is_by nexus) entries j d within) in
    absurd (omega (arith, less, is))
  where
    Own : Entry → Entry → Type 0
    Own a b = is_by nexus a ≡ true → is_by nexus b ≡ true → a.stamp < b.stamp

    own : (a b : Entry) → (a.actor ≡ b.actor → Contains first a ⊎ Contains first b ⊎ (a.stamp < b.stamp)) → Own a b
    own a b h one other = go (h (who a one ∙ sym (who b other)))
      where
        who : (e : Entry) → is_by nexus e ≡ true → e.actor ≡ Actor.Nexus nexus
        who e is = same_actor-is e.actor (Actor.Nexus nexus) is

        go : Contains first a ⊎ Contains first b ⊎ (a.stamp < b.stamp) → a.stamp < b.stamp
        go (inl at) = absurd (All-contains (λ (e : Entry). e.actor ≢ Actor.Nexus nexus) first a new at (who a one))
        go (inr (inl at)) = absurd (All-contains (λ (e : Entry). e.actor ≢ Actor.Nexus nexus) first b new at (who b other))
        go (inr (inr less)) = less
