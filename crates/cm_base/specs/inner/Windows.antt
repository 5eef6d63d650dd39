-- What is read of a window of an input.
use Rattle.std.specs.Prelude.{ℕ, ◌-◌, List, slice_range, vec_len}
use Rattle.cm_base.specs.declared.window.Window.{Window}

-- the bytes that wait to be used
abbrev pub held : Window → List ℕ
held w = slice_range w.bytes.items w.start w.end

-- the bytes that may be pulled behind them
abbrev pub room : Window → ℕ
room w = vec_len w.bytes - w.end
