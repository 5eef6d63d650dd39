-- The seats' type may be used as long as what they hold
use contract.BorrowLft.{⊑_meet, ⊑_static}
use Rattle.nexus.proofs.world.note_joined.Goals as goal

pub join-requires : goal.join-requires
join-requires g c κs within =
    let none = ⊑_static κs.1.1.1.0 in
    let part0 = ⊑_meet _ _ _ within.1 none in
    let part1 = ⊑_meet _ _ _ within.0 none in
    let part2 = ⊑_meet _ _ _ part1 none in
    let part3 = ⊑_meet _ _ _ part0 none in
    let part4 = ⊑_meet _ _ _ part1 part2 in
    let part5 = ⊑_meet _ _ _ part0 part3 in
    let part6 = ⊑_meet _ _ _ part5 none in
    let part7 = ⊑_meet _ _ _ part0 part6 in
    let part8 = ⊑_meet _ _ _ part7 none in
    let part9 = ⊑_meet _ _ _ part4 part8 in (
      ⊑_meet _ _ _ (⊑_meet _ _ _ (⊑_meet _ _ _ (⊑_meet _ _ _ within.0 part0) (⊑_meet _ _ _ (⊑_meet _ _ _ part9 (⊑_meet _ _ _ (⊑_meet _ _ _ (⊑_meet _ _ _ (⊑_meet _ _ _ part9 part9) none) none) none)) none)) none) none,
      (c.requires.root, c.requires.pass),
    )
