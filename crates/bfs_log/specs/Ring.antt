-- The log is a ring of blocks: a place counts from its first block, and behind the last comes the first again.
use Rattle.std.specs.Prelude.{ℕ, ◌+◌, ◌-◌, nat_lt, nat_le, if◌then◌else◌}

-- the place so many blocks on
abbrev pub next_place : ℕ → ℕ → ℕ → ℕ
next_place at by length = if nat_lt (at + by) length then at + by else at + by - length

-- how many blocks are in use from one place to another; equal places mean none
abbrev pub in_use : ℕ → ℕ → ℕ → ℕ
in_use start end length = if nat_le start end then end - start else end + length - start
