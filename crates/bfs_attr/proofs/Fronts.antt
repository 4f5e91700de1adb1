-- The fields of an inode, by the bytes before its small data.
use Rattle.std.proofs.Common.{◌≡◌, ◌≤◌, ◌+◌, ◌-◌, ℕ, List, take, drop, sym, ◌∙◌, ap, arith}
use Rattle.std.proofs.lemmas.List.{drop-take, take-take}
use Rattle.std.specs.Int.{w32, w64, cast_signed}
use Rattle.bfs_bytes.specs.Fields.{unsigned_at, signed32_at, signed64_at, run_in}
use Rattle.bfs_inode.specs.Inode.{inode_at}
use Rattle.bfs_smalldata.proofs.Reading.{unsigned_taken}

part_taken : (n m at : ℕ) (b : List ℕ) → at + n ≤ m → take n (drop at (take m b)) ≡ take n (drop at b)
part_taken n m at b h =
    let rest : m ≡ at + (m - at) = omega (arith, h) in
    ap (λ (k : ℕ). take n (drop at (take k b))) rest
    ∙ ap (take n) (drop-take at (m - at) b)
    ∙ take-take n (m - at) (drop at b) (omega (arith, h))

module _ (a b : List ℕ) (same : take 232 a ≡ take 232 b) where
  unsigned_front : (n at : ℕ) → at + n ≤ 232 → unsigned_at n a at ≡ unsigned_at n b at
  unsigned_front n at h = sym (unsigned_taken n 232 a at h) ∙ ap (λ (l : List ℕ). unsigned_at n l at) same ∙ unsigned_taken n 232 b at h

  signed32_front : (at : ℕ) → at + 4 ≤ 232 → signed32_at a at ≡ signed32_at b at
  unfolding signed32_at
  signed32_front at h = ap (cast_signed w32) (unsigned_front 4 at h)

  signed64_front : (at : ℕ) → at + 8 ≤ 232 → signed64_at a at ≡ signed64_at b at
  unfolding signed64_at
  signed64_front at h = ap (cast_signed w64) (unsigned_front 8 at h)

  pub run_front : (at : ℕ) → at + 8 ≤ 232 → run_in a at ≡ run_in b at
  unfolding run_in
  run_front at h =
      let group = signed32_front at (omega (arith, h)) in
      let start = unsigned_front 2 (at + 4) (omega (arith, h)) in
      let len = unsigned_front 2 (at + 6) (omega (arith, h)) in
      λ i. record { group = group i; start = start i; len = len i }

  part_front : (n at : ℕ) → at + n ≤ 232 → take n (drop at a) ≡ take n (drop at b)
  part_front n at h = sym (part_taken n 232 at a h) ∙ ap (λ (l : List ℕ). take n (drop at l)) same ∙ part_taken n 232 at b h

  -- but for the address of the attribute directory and the small data they are the same
  pub inode_front : inode_at a ≡ record (inode_at b) { attributes = run_in a 52; small_data = drop 232 a }
  inode_front = λ t. record {
    magic1 = signed32_front 0 (omega arith) t;
    inode_num = run_front 4 (omega arith) t;
    uid = signed32_front 12 (omega arith) t;
    gid = signed32_front 16 (omega arith) t;
    mode = signed32_front 20 (omega arith) t;
    flags = signed32_front 24 (omega arith) t;
    create_time = signed64_front 28 (omega arith) t;
    last_modified_time = signed64_front 36 (omega arith) t;
    parent = run_front 44 (omega arith) t;
    attributes = run_in a 52;
    type_code = unsigned_front 4 60 (omega arith) t;
    inode_size = signed32_front 64 (omega arith) t;
    etc = unsigned_front 4 68 (omega arith) t;
    stream_bytes = part_front 144 72 (omega arith) t;
    status_change_time = signed64_front 216 (omega arith) t;
    pad = part_front 8 224 (omega arith) t;
    small_data = drop 232 a;
  }
