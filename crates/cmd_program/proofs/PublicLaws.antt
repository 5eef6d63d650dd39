-- The lemmas of cmd_program that other crates may cite
pub use Rattle.cmd_program.proofs.Busy.{HasGivenUp, ends-busy, gives-up}
pub use Rattle.cmd_program.proofs.ShortSteps.{OneLess, short-act, short-want}
pub use Rattle.cmd_program.proofs.Short.{named-within, none-second, place-within, small-size}
pub use Rattle.cmd_program.proofs.HonestPrograms.{IsHonest, program-honest}
pub use Rattle.cmd_program.proofs.WriteVain.{ends-or-excused, excused-as}
pub use Rattle.cmd_program.proofs.WriteStops.{not-stopped}
pub use Rattle.cmd_program.proofs.Stepping.{EndsBusy, IsBusyAtEnd}
pub use Rattle.cmd_program.proofs.AsksAll.{step-askable}
