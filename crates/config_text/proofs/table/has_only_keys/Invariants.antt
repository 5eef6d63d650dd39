use Rattle.std.proofs.Common.{◌≡◌}
use Rattle.config_text.specs.Meaning.{is_key, has_only}
use Rattle.toml.specs.View.{members_view}
use Rattle.config_text.proofs.table.has_only_keys.Given as goal

abbrev pub invariant-names : goal.invariant-names
invariant-names l =
    (goal.iterator-names).can_next l.name-iterator × (goal.iterator-names).is_finite l.name-iterator
    × (has_only is_key (members_view l.name-iterator) ≡ has_only is_key (members_view l.text.entries))
