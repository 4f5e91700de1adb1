-- What a value of a leaf names. Its two upper bits are its link type: 0 a plain number, 2 a duplicate page, 3 a fragment.
use Rattle.std.specs.Prelude.{◌^◌, ◌/◌, ◌*◌, ◌%◌, ℕ, ℤ, ◌==◌, if◌then◌else◌}
use Rattle.std.specs.Int.{w64, cast_unsigned}
use Rattle.bfs_values.specs.declared.link.Link.{Link}
use Rattle.bfs_values.specs.declared.link.Link.TheVariants.{Number, Fragment, Chain, Nothing}

-- the page that a link names: its lower 62 bits but the last ten
abbrev pub page_bits : ℕ → ℕ
page_bits bits = bits % 2 ^ 62 / 1024 * 1024

-- by the link's type and bits; the last ten bits of a fragment's link are its number in the page
abbrev pub link_by : ℕ → ℕ → Link
link_by kind bits = if kind == 0 then Number bits else if kind == 2 then Chain (page_bits bits) else if kind == 3 then Fragment (page_bits bits) (bits % 1024) else Nothing

unfoldable pub link_in : ℤ → Link
link_in value = link_by (cast_unsigned w64 value / 2 ^ 62) (cast_unsigned w64 value)
