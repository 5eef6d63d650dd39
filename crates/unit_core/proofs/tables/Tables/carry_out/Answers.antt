use Rattle.std.proofs.Common.{◌≡◌, ℕ, [], length, refl, ap, sym, ◌∙◌, true, false, Some, None, Bool}
use Rattle.std.specs.Prelude.{map, ◌||◌}
use Rattle.lba_ranges.specs.Writings.{after}
use Rattle.rod_store.specs.Kept.{kept_with}
use Rattle.rod_store.specs.declared.pinned_rod.PinnedRod.{PinnedRod}
use Rattle.rod_store.specs.Pinning.{rod_shown, rod_now, holder}
use Rattle.lba_ranges.specs.Versions.{with_put}
use Rattle.rod_store.specs.TokenChanges.{tokens_after, is_make, unpinned, rod_made, pinned_after, ranges_pinned, written_with}
use Rattle.rod_store.proofs.PublicLaws.{after-with, pinned-same, pinned-sized, rods-same}
use Rattle.unit_core.specs.inner.BlockChanges.{writings_of}
use Rattle.unit_core.specs.inner.JobChanges.{grows}
use Rattle.unit_core.specs.inner.Seen.{lives_in, put_seen, seen_after}
use Rattle.unit_core.proofs.Seeing.{pinned-apart, seen-changed, seen-with}
use Rattle.unit_core.proofs.Changing.{on-err, nothing-written, made-makes, now-same, may-now, stay, stay-shown}
use Rattle.unit_core.proofs.tables.Tables.carry_out.Goals as goal

or-right : (a b : Bool) → b ≡ true → (a || b) ≡ true
or-right true b e = refl
or-right false b e = e

pub returns-in_err-reserve-clause-pinned : goal.returns-in_err-reserve-clause-pinned
returns-in_err-reserve-clause-pinned g c = rw c.reserve.ensures.same c.requires.pinned

pub returns-in_err-apply-clause-pinned : goal.returns-in_err-apply-clause-pinned
returns-in_err-apply-clause-pinned g c = rw c.reserve.ensures.same (
    let own = holder None c.args.self.now.tokens.tokens in
    pinned-sized g.B.Pins.number (g.B.Blocks.blocks c.args.self.now.blocks) (g.B.Blocks.blocks c.apply.new.blocks) (g.B.Blocks.pinned c.apply.new.blocks) own c.apply.ensures.blocks
    (pinned-same g.B.Pins.number (g.B.Blocks.blocks c.args.self.now.blocks) (g.B.Blocks.pinned c.args.self.now.blocks) (g.B.Blocks.pinned c.apply.new.blocks) own own c.requires.pinned c.apply.ensures.pins.live (λ at. refl)))

pub returns-in_err-apply-clause-same_tokens : goal.returns-in_err-apply-clause-same_tokens
returns-in_err-apply-clause-same_tokens g c = on-err c.from_residual-in_err-apply.result _ (rw c.reserve.ensures.same
    (rods-same g.B.Pins.number (g.B.Blocks.block_length c.args.self.now.blocks) (g.B.Blocks.block_length c.apply.new.blocks) (g.B.Blocks.shown c.args.self.now.blocks) (g.B.Blocks.shown c.apply.new.blocks)
    c.args.self.now.tokens.tokens c.apply.ensures.length
    (stay g.B.Pins.number (g.B.Blocks.blocks c.args.self.now.blocks) (g.B.Blocks.pinned c.args.self.now.blocks) (g.B.Blocks.shown c.args.self.now.blocks) (g.B.Blocks.shown c.apply.new.blocks) None c.args.self.now.tokens.tokens
    c.requires.pinned c.apply.ensures.pins.shows)))

pub returns-in_err-change-clause-pinned : goal.returns-in_err-change-clause-pinned
returns-in_err-change-clause-pinned g c = rw c.reserve.ensures.same (
    let own = holder None c.args.self.now.tokens.tokens in
    c.in_err-change.ensures.same c.args.self.now.tokens.tokens
    (pinned-sized g.B.Pins.number (g.B.Blocks.blocks c.args.self.now.blocks) (g.B.Blocks.blocks c.apply.new.blocks) (g.B.Blocks.pinned c.apply.new.blocks) own c.apply.ensures.blocks
    (pinned-same g.B.Pins.number (g.B.Blocks.blocks c.args.self.now.blocks) (g.B.Blocks.pinned c.args.self.now.blocks) (g.B.Blocks.pinned c.apply.new.blocks) own own c.requires.pinned c.apply.ensures.pins.live (λ at. refl))))

pub returns-in_err-change-clause-same_tokens : goal.returns-in_err-change-clause-same_tokens
returns-in_err-change-clause-same_tokens g c = on-err c.from_residual-in_err-change.result _ (rw c.reserve.ensures.same (
    let own = holder None c.args.self.now.tokens.tokens in
    let tokens = c.args.self.now.tokens.tokens in
    let are = pinned-same g.B.Pins.number (g.B.Blocks.blocks c.args.self.now.blocks) (g.B.Blocks.pinned c.args.self.now.blocks) (g.B.Blocks.pinned c.apply.new.blocks) own own c.requires.pinned c.apply.ensures.pins.live (λ at. refl) in
    let first = stay g.B.Pins.number (g.B.Blocks.blocks c.args.self.now.blocks) (g.B.Blocks.pinned c.args.self.now.blocks) (g.B.Blocks.shown c.args.self.now.blocks) (g.B.Blocks.shown c.apply.new.blocks) None tokens c.requires.pinned c.apply.ensures.pins.shows in
    let second = stay g.B.Pins.number (g.B.Blocks.blocks c.args.self.now.blocks) (g.B.Blocks.pinned c.apply.new.blocks) (g.B.Blocks.shown c.apply.new.blocks) (g.B.Blocks.shown c.pinned.new.blocks) None tokens are c.pinned.ensures.shows in
    rods-same g.B.Pins.number (g.B.Blocks.block_length c.args.self.now.blocks) (g.B.Blocks.block_length c.pinned.new.blocks) (g.B.Blocks.shown c.args.self.now.blocks) (g.B.Blocks.shown c.pinned.new.blocks)
    tokens (c.pinned.ensures.length ∙ c.apply.ensures.length) (λ k rod b e den. second k rod b e den ∙ first k rod b e den)))

pub give_up-requires : goal.give_up-requires
give_up-requires g c =
    let own = holder None c.args.self.now.tokens.tokens in
    record {
      pinned = (
        c.args.self.now.tokens.tokens,
        c.in_ok-change.ensures.pins c.args.self.now.tokens.tokens
            (pinned-sized g.B.Pins.number (g.B.Blocks.blocks c.args.self.now.blocks) (g.B.Blocks.blocks c.apply.new.blocks) (g.B.Blocks.pinned c.apply.new.blocks) own c.apply.ensures.blocks
            (pinned-same g.B.Pins.number (g.B.Blocks.blocks c.args.self.now.blocks) (g.B.Blocks.pinned c.args.self.now.blocks) (g.B.Blocks.pinned c.apply.new.blocks) own own c.requires.pinned c.apply.ensures.pins.live (λ at. refl))),
      );
    }

pub returns-in-Err-clause-pinned : goal.returns-in-Err-clause-pinned
returns-in-Err-clause-pinned g c = rw c.reserve.ensures.same (
    let own = holder None c.args.self.now.tokens.tokens in
    c.give_up.ensures.pinned c.args.self.now.tokens.tokens
    (c.in_ok-change.ensures.pins c.args.self.now.tokens.tokens
    (pinned-sized g.B.Pins.number (g.B.Blocks.blocks c.args.self.now.blocks) (g.B.Blocks.blocks c.apply.new.blocks) (g.B.Blocks.pinned c.apply.new.blocks) own c.apply.ensures.blocks
    (pinned-same g.B.Pins.number (g.B.Blocks.blocks c.args.self.now.blocks) (g.B.Blocks.pinned c.args.self.now.blocks) (g.B.Blocks.pinned c.apply.new.blocks) own own c.requires.pinned c.apply.ensures.pins.live (λ at. refl)))))

pub returns-in-Err-clause-same_tokens : goal.returns-in-Err-clause-same_tokens
returns-in-Err-clause-same_tokens g c = rw c.reserve.ensures.same (
    let own = holder None c.args.self.now.tokens.tokens in
    let tokens = c.args.self.now.tokens.tokens in
    let are = pinned-same g.B.Pins.number (g.B.Blocks.blocks c.args.self.now.blocks) (g.B.Blocks.pinned c.args.self.now.blocks) (g.B.Blocks.pinned c.apply.new.blocks) own own c.requires.pinned c.apply.ensures.pins.live (λ at. refl) in
    let here = pinned-sized g.B.Pins.number (g.B.Blocks.blocks c.args.self.now.blocks) (g.B.Blocks.blocks c.apply.new.blocks) (g.B.Blocks.pinned c.apply.new.blocks) own c.apply.ensures.blocks are in
    let later = c.give_up.ensures.pinned tokens (c.in_ok-change.ensures.pins tokens here) in
    let first = stay g.B.Pins.number (g.B.Blocks.blocks c.args.self.now.blocks) (g.B.Blocks.pinned c.args.self.now.blocks) (g.B.Blocks.shown c.args.self.now.blocks) (g.B.Blocks.shown c.apply.new.blocks) None tokens c.requires.pinned c.apply.ensures.pins.shows in
    let second = stay g.B.Pins.number (g.B.Blocks.blocks c.args.self.now.blocks) (g.B.Blocks.pinned c.apply.new.blocks) (g.B.Blocks.shown c.apply.new.blocks) (g.B.Blocks.shown c.pinned.new.blocks) None tokens are c.pinned.ensures.shows in
    let third = stay-shown g.B.Pins.number (g.B.Blocks.blocks c.give_up.new.blocks) (g.B.Blocks.pinned c.pinned.new.blocks) (g.B.Blocks.pinned c.give_up.new.blocks) (g.B.Blocks.shown c.pinned.new.blocks) (g.B.Blocks.shown c.give_up.new.blocks) None tokens later c.give_up.ensures.shows in
    rods-same g.B.Pins.number (g.B.Blocks.block_length c.args.self.now.blocks) (g.B.Blocks.block_length c.give_up.new.blocks) (g.B.Blocks.shown c.args.self.now.blocks) (g.B.Blocks.shown c.give_up.new.blocks)
    tokens (c.give_up.ensures.length ∙ c.pinned.ensures.length ∙ c.apply.ensures.length) (λ k rod b e den. third k rod b e den ∙ second k rod b e den ∙ first k rod b e den))

pub settle-requires-clause-may : goal.settle-requires-clause-may
settle-requires-clause-may g c =
    may-now (rod_shown g.B.Pins.number (g.B.Blocks.block_length c.args.self.now.blocks) (g.B.Blocks.shown c.args.self.now.blocks)) c.args.self.now.tokens c.reserve.new.tokens c.args.now c.args.tokens
    (unpinned c.in_ok-change.change) c.reserve.ensures.same c.in_ok-change.ensures.change (c.requires.tokens c.reserve.new.tokens.spare c.in_ok-reserve.ensures.room)

pub settle-requires-clause-pinned : goal.settle-requires-clause-pinned
settle-requires-clause-pinned g c = rw c.reserve.ensures.same (
    let own = holder None c.args.self.now.tokens.tokens in
    c.in_ok-change.ensures.pins c.args.self.now.tokens.tokens
    (pinned-sized g.B.Pins.number (g.B.Blocks.blocks c.args.self.now.blocks) (g.B.Blocks.blocks c.apply.new.blocks) (g.B.Blocks.pinned c.apply.new.blocks) own c.apply.ensures.blocks
    (pinned-same g.B.Pins.number (g.B.Blocks.blocks c.args.self.now.blocks) (g.B.Blocks.pinned c.args.self.now.blocks) (g.B.Blocks.pinned c.apply.new.blocks) own own c.requires.pinned c.apply.ensures.pins.live (λ at. refl))))

pub returns-clause-tokens : goal.returns-clause-tokens
returns-clause-tokens g c =
    let number = g.B.Pins.number in
    let was = c.args.self.now.blocks in
    let put = c.apply.new.blocks in
    let kept = c.pinned.new.blocks in
    let done = c.settle.new.blocks in
    let own = holder None c.args.self.now.tokens.tokens in
    let tokens = c.args.self.now.tokens.tokens in
    let size = g.B.Blocks.block_length was in
    let change = c.in_ok-change.change in
    let are = pinned-same number (g.B.Blocks.blocks was) (g.B.Blocks.pinned was) (g.B.Blocks.pinned put) own own c.requires.pinned c.apply.ensures.pins.live (λ at. refl) in
    let first = stay number (g.B.Blocks.blocks was) (g.B.Blocks.pinned was) (g.B.Blocks.shown was) (g.B.Blocks.shown put) None tokens c.requires.pinned c.apply.ensures.pins.shows in
    let second = stay number (g.B.Blocks.blocks was) (g.B.Blocks.pinned put) (g.B.Blocks.shown put) (g.B.Blocks.shown kept) None tokens are c.pinned.ensures.shows in
    let third = stay-shown number (g.B.Blocks.blocks done) (g.B.Blocks.pinned kept) (g.B.Blocks.pinned done) (g.B.Blocks.shown kept) (g.B.Blocks.shown done) None c.settle.new.tokens.tokens c.settle.ensures.pinned c.settle.ensures.shows in
    let f = rod_shown number size (g.B.Blocks.shown kept) in
    let cut = rod_now size (g.B.Blocks.holds was) in
    let long = c.settle.ensures.length ∙ c.pinned.ensures.length ∙ c.apply.ensures.length in
    let quiet : (rod : PinnedRod _) → rod_made change ≡ Some rod → (b : ℕ) → g.B.Blocks.holds put b ≡ g.B.Blocks.holds was b = λ rod e b.
    c.in_ok-apply.ensures.wrote b
    ∙ ap (λ ws. after ws b (g.B.Blocks.holds was b))
    (nothing-written c.args.blocks.now (c.requires.apart (or-right (grows c.args.jobs) (is_make c.args.tokens) (ap is_make (sym c.in_ok-change.ensures.change) ∙ made-makes change rod e)))) in
    let made : (rod : PinnedRod _) → rod_made change ≡ Some rod → f rod ≡ cut rod.ranges = λ rod e.
    ap (λ n. rod_shown number n (g.B.Blocks.shown kept) rod) (sym c.apply.ensures.length)
    ∙ c.in_ok-change.ensures.made rod e
    ∙ now-same size (g.B.Blocks.block_length put) (g.B.Blocks.holds was) (g.B.Blocks.holds put) rod.ranges c.apply.ensures.length (quiet rod e) in
    rods-same number size (g.B.Blocks.block_length done) (g.B.Blocks.shown kept) (g.B.Blocks.shown done) c.settle.new.tokens.tokens long third
    ∙ ap (map (kept_with f)) (c.settle.ensures.tokens ∙ ap (pinned_after change c.args.now) c.reserve.ensures.same)
    ∙ after-with f cut change c.args.now tokens made
    ∙ ap (λ x. tokens_after cut x c.args.now (map (kept_with f) tokens)) c.in_ok-change.ensures.change
    ∙ ap (tokens_after cut c.args.tokens c.args.now)
    (rods-same number size size (g.B.Blocks.shown was) (g.B.Blocks.shown kept) tokens refl (λ k rod b e den. second k rod b e den ∙ first k rod b e den))

pub returns-in_err-reserve-clause-writers : goal.returns-in_err-reserve-clause-writers
returns-in_err-reserve-clause-writers g c = on-err c.from_residual.result _ (λ w by.
    record { writers = w; written = by; same = λ s b. ap (λ l. put_seen g.B.Pins.number w l s b) c.reserve.ensures.same })

pub returns-in_err-apply-clause-writers : goal.returns-in_err-apply-clause-writers
returns-in_err-apply-clause-writers g c = on-err c.from_residual-in_err-apply.result _ (λ w by.
    record { writers = w; written = c.in_err-apply.ensures.writers w by; same = λ s b. ap (λ l. put_seen g.B.Pins.number w l s b) c.reserve.ensures.same })

pub returns-in_err-change-clause-writers : goal.returns-in_err-change-clause-writers
returns-in_err-change-clause-writers g c = on-err c.from_residual-in_err-change.result _ (λ w by.
    let quiet = c.requires.apart (or-right (grows c.args.jobs) (is_make c.args.tokens) c.in_err-change.ensures.makes) in
    record { writers = w; written = c.in_err-change.ensures.writers w (c.apply.ensures.quiet quiet w by); same = λ s b. ap (λ l. put_seen g.B.Pins.number w l s b) c.reserve.ensures.same })

or-left : (a b : Bool) → a ≡ true → (a || b) ≡ true
or-left true b e = refl
or-left false b e = cc

pub returns-in-Err-clause-writers : goal.returns-in-Err-clause-writers
returns-in-Err-clause-writers g c = λ w by.
    let number = g.B.Pins.number in
    let own = holder None c.args.self.now.tokens.tokens in
    let tokens = c.args.self.now.tokens.tokens in
    let change = c.in_ok-change.change in
    let are = pinned-same number (g.B.Blocks.blocks c.args.self.now.blocks) (g.B.Blocks.pinned c.args.self.now.blocks) (g.B.Blocks.pinned c.apply.new.blocks) own own c.requires.pinned c.apply.ensures.pins.live (λ at. refl) in
    let here = pinned-sized number (g.B.Blocks.blocks c.args.self.now.blocks) (g.B.Blocks.blocks c.apply.new.blocks) (g.B.Blocks.pinned c.apply.new.blocks) own c.apply.ensures.blocks are in
    let apart = pinned-apart number (g.B.Blocks.blocks c.pinned.new.blocks) (g.B.Blocks.pinned c.pinned.new.blocks) change tokens (c.in_ok-change.ensures.pins tokens here) in
    let quiet = c.requires.apart (or-left (grows c.args.jobs) (is_make c.args.tokens) c.in-Err.ensures.grows) in
    record {
      writers = written_with number change w;
      written = c.give_up.ensures.written (written_with number change w) (c.in_ok-change.ensures.written w (c.apply.ensures.quiet quiet w by));
      same = λ s b. ap (λ l. put_seen number (written_with number change w) l s b) c.reserve.ensures.same ∙ seen-with number change tokens apart w s b;
    }

pub returns-clause-written : goal.returns-clause-written
returns-clause-written g c = λ w put by new.
    let number = g.B.Pins.number in
    let own = holder None c.args.self.now.tokens.tokens in
    let tokens = c.args.self.now.tokens.tokens in
    let change = c.in_ok-change.change in
    let ws = writings_of c.args.blocks.now in
    let are = pinned-same number (g.B.Blocks.blocks c.args.self.now.blocks) (g.B.Blocks.pinned c.args.self.now.blocks) (g.B.Blocks.pinned c.apply.new.blocks) own own c.requires.pinned c.apply.ensures.pins.live (λ at. refl) in
    let here = pinned-sized number (g.B.Blocks.blocks c.args.self.now.blocks) (g.B.Blocks.blocks c.apply.new.blocks) (g.B.Blocks.pinned c.apply.new.blocks) own c.apply.ensures.blocks are in
    let apart = pinned-apart number (g.B.Blocks.blocks c.pinned.new.blocks) (g.B.Blocks.pinned c.pinned.new.blocks) change tokens (c.in_ok-change.ensures.pins tokens here) in
    let quiet : (rod : PinnedRod _) → rod_made change ≡ Some rod → ws ≡ [] = λ rod e.
    nothing-written c.args.blocks.now (c.requires.apart (or-right (grows c.args.jobs) (is_make c.args.tokens) (ap is_make (sym c.in_ok-change.ensures.change) ∙ made-makes change rod e))) in
    let after = c.settle.ensures.tokens ∙ ap (pinned_after change c.args.now) c.reserve.ensures.same in
    let written = c.settle.ensures.written _ (c.in_ok-change.ensures.written _ (c.in_ok-apply.ensures.written w put by new)) in
    record {
      writers = written_with number change (with_put ws put w);
      written = written;
      same = λ s b.
          ap (λ l. put_seen number (written_with number change (with_put ws put w)) l s b) after
          ∙ seen-changed number change tokens apart c.args.now ws put w quiet s b
          ∙ ap (λ x. seen_after put ws (ranges_pinned x) (length tokens) (lives_in (pinned_after change c.args.now tokens)) (put_seen number w tokens) s b) c.in_ok-change.ensures.change
          ∙ ap (λ l. seen_after put ws (ranges_pinned c.args.tokens) (length tokens) (lives_in l) (put_seen number w tokens) s b) (sym after);
    }
