-- What a written field makes of the inode and of its data stream: that field has the new value, and the others stay.
use Rattle.std.proofs.Common.{◌≡◌, ◌≤◌, ◌<◌, ◌+◌, ◌-◌, ◌*◌, ◌^◌, ℕ, ℤ, List, ◌++◌, length, take, drop, set, ap, ◌∙◌, arith, inl, inr, FitsSigned}
use Rattle.std.specs.Int.{w32, w64}
use Rattle.std.proofs.lemmas.List.{take_at, append-nil, drop_all}
use Rattle.bfs_bytes.specs.declared.Run.{Run}
use Rattle.bfs_bytes.specs.Fields.{Puts, unsigned_bytes, signed32_bytes, signed64_bytes, run_bytes}
use Rattle.bfs_bytes.proofs.Lengths.{length-unsigned_bytes, length-signed32_bytes, length-signed64_bytes, length-run_bytes}
use Rattle.bfs_bytes.proofs.Kept.{AreApart, puts-length, bytes-kept, bytes-put, rest-kept_behind, unsigned-kept, signed32-kept, signed64-kept, run-kept, unsigned-put, signed32-put, signed64-put, run-put}
use Rattle.bfs_inode.specs.Inode.{KeepsOutside, inode_at, stream_at, runs_in}
use Rattle.bfs_inode.proofs.Runs.{runs-kept, runs-put}

-- a part of what lies apart lies apart
within : (a n b m at k : ℕ) → a ≤ b → b + m ≤ a + n → AreApart a n at k → AreApart b m at k
within a n b m at k low high (inl before) = inl (omega arith)
within a n b m at k low high (inr behind) = inr (omega arith)

module _ (at : ℕ) (field old new : List ℕ) (puts : Puts at field old new) (fits : at + length field ≤ length old) where
  -- a write outside the data stream
  pub stream-kept : AreApart 72 144 at (length field) → stream_at new ≡ stream_at old
  stream-kept apart = λ t. record {
    direct = runs-kept at field old new puts fits 12 72 (within 72 144 72 96 at (length field) (omega arith) (omega arith) apart) t;
    max_direct_range = signed64-kept at field old new puts fits 168 (within 72 144 168 8 at (length field) (omega arith) (omega arith) apart) t;
    indirect = run-kept at field old new puts fits 176 (within 72 144 176 8 at (length field) (omega arith) (omega arith) apart) t;
    max_indirect_range = signed64-kept at field old new puts fits 184 (within 72 144 184 8 at (length field) (omega arith) (omega arith) apart) t;
    double_indirect = run-kept at field old new puts fits 192 (within 72 144 192 8 at (length field) (omega arith) (omega arith) apart) t;
    max_double_indirect_range = signed64-kept at field old new puts fits 200 (within 72 144 200 8 at (length field) (omega arith) (omega arith) apart) t;
    size = signed64-kept at field old new puts fits 208 (within 72 144 208 8 at (length field) (omega arith) (omega arith) apart) t;
  }

  -- a write inside the data stream leaves what stands before and behind it
  pub outside-kept : 72 ≤ at → at + length field ≤ 216 → KeepsOutside old new
  outside-kept low high = (puts-length at field old new puts fits, bytes-kept at field old new puts fits 0 72 (inl (omega arith)), rest-kept_behind at field old new puts fits 216 (omega arith))

  -- and so do the fields there
  pub inode-in_stream : 72 ≤ at → at + length field ≤ 216 → inode_at new ≡ record (inode_at old) { stream_bytes = take 144 (drop 72 new) }
  inode-in_stream low high = λ t. record {
    magic1 = signed32-kept at field old new puts fits 0 (inl (omega arith)) t;
    inode_num = run-kept at field old new puts fits 4 (inl (omega arith)) t;
    uid = signed32-kept at field old new puts fits 12 (inl (omega arith)) t;
    gid = signed32-kept at field old new puts fits 16 (inl (omega arith)) t;
    mode = signed32-kept at field old new puts fits 20 (inl (omega arith)) t;
    flags = signed32-kept at field old new puts fits 24 (inl (omega arith)) t;
    create_time = signed64-kept at field old new puts fits 28 (inl (omega arith)) t;
    last_modified_time = signed64-kept at field old new puts fits 36 (inl (omega arith)) t;
    parent = run-kept at field old new puts fits 44 (inl (omega arith)) t;
    attributes = run-kept at field old new puts fits 52 (inl (omega arith)) t;
    type_code = unsigned-kept at field old new puts fits 4 60 (inl (omega arith)) t;
    inode_size = signed32-kept at field old new puts fits 64 (inl (omega arith)) t;
    etc = unsigned-kept at field old new puts fits 4 68 (inl (omega arith)) t;
    stream_bytes = take 144 (drop 72 new);
    status_change_time = signed64-kept at field old new puts fits 216 (inr (omega arith)) t;
    pad = bytes-kept at field old new puts fits 224 8 (inr (omega arith)) t;
    small_data = rest-kept_behind at field old new puts fits 232 (omega arith) t;
  }

pub magic1-put : (old new : List ℕ) (v : ℤ) → Puts 0 (signed32_bytes v) old new → 1024 ≤ length old → FitsSigned w32 v → inode_at new ≡ record (inode_at old) { magic1 = v }
magic1-put old new v puts long range =
    let size : length (signed32_bytes v) ≡ 4 = length-signed32_bytes v in
    let fits : 0 + length (signed32_bytes v) ≤ length old = omega arith in
    λ t. record {
      magic1 = signed32-put 0 old new v puts (omega arith) range t;
      inode_num = run-kept 0 (signed32_bytes v) old new puts fits 4 (inr (omega arith)) t;
      uid = signed32-kept 0 (signed32_bytes v) old new puts fits 12 (inr (omega arith)) t;
      gid = signed32-kept 0 (signed32_bytes v) old new puts fits 16 (inr (omega arith)) t;
      mode = signed32-kept 0 (signed32_bytes v) old new puts fits 20 (inr (omega arith)) t;
      flags = signed32-kept 0 (signed32_bytes v) old new puts fits 24 (inr (omega arith)) t;
      create_time = signed64-kept 0 (signed32_bytes v) old new puts fits 28 (inr (omega arith)) t;
      last_modified_time = signed64-kept 0 (signed32_bytes v) old new puts fits 36 (inr (omega arith)) t;
      parent = run-kept 0 (signed32_bytes v) old new puts fits 44 (inr (omega arith)) t;
      attributes = run-kept 0 (signed32_bytes v) old new puts fits 52 (inr (omega arith)) t;
      type_code = unsigned-kept 0 (signed32_bytes v) old new puts fits 4 60 (inr (omega arith)) t;
      inode_size = signed32-kept 0 (signed32_bytes v) old new puts fits 64 (inr (omega arith)) t;
      etc = unsigned-kept 0 (signed32_bytes v) old new puts fits 4 68 (inr (omega arith)) t;
      stream_bytes = bytes-kept 0 (signed32_bytes v) old new puts fits 72 144 (inr (omega arith)) t;
      status_change_time = signed64-kept 0 (signed32_bytes v) old new puts fits 216 (inr (omega arith)) t;
      pad = bytes-kept 0 (signed32_bytes v) old new puts fits 224 8 (inr (omega arith)) t;
      small_data = rest-kept_behind 0 (signed32_bytes v) old new puts fits 232 (omega arith) t;
    }

pub inode_num-put : (old new : List ℕ) (v : Run) → Puts 4 (run_bytes v) old new → 1024 ≤ length old → FitsSigned w32 v.group → v.start < 2 ^ 16 → v.len < 2 ^ 16 → inode_at new ≡ record (inode_at old) { inode_num = v }
inode_num-put old new v puts long range start_range len_range =
    let size : length (run_bytes v) ≡ 8 = length-run_bytes v in
    let fits : 4 + length (run_bytes v) ≤ length old = omega arith in
    λ t. record {
      magic1 = signed32-kept 4 (run_bytes v) old new puts fits 0 (inl (omega arith)) t;
      inode_num = run-put 4 old new v puts (omega arith) range start_range len_range t;
      uid = signed32-kept 4 (run_bytes v) old new puts fits 12 (inr (omega arith)) t;
      gid = signed32-kept 4 (run_bytes v) old new puts fits 16 (inr (omega arith)) t;
      mode = signed32-kept 4 (run_bytes v) old new puts fits 20 (inr (omega arith)) t;
      flags = signed32-kept 4 (run_bytes v) old new puts fits 24 (inr (omega arith)) t;
      create_time = signed64-kept 4 (run_bytes v) old new puts fits 28 (inr (omega arith)) t;
      last_modified_time = signed64-kept 4 (run_bytes v) old new puts fits 36 (inr (omega arith)) t;
      parent = run-kept 4 (run_bytes v) old new puts fits 44 (inr (omega arith)) t;
      attributes = run-kept 4 (run_bytes v) old new puts fits 52 (inr (omega arith)) t;
      type_code = unsigned-kept 4 (run_bytes v) old new puts fits 4 60 (inr (omega arith)) t;
      inode_size = signed32-kept 4 (run_bytes v) old new puts fits 64 (inr (omega arith)) t;
      etc = unsigned-kept 4 (run_bytes v) old new puts fits 4 68 (inr (omega arith)) t;
      stream_bytes = bytes-kept 4 (run_bytes v) old new puts fits 72 144 (inr (omega arith)) t;
      status_change_time = signed64-kept 4 (run_bytes v) old new puts fits 216 (inr (omega arith)) t;
      pad = bytes-kept 4 (run_bytes v) old new puts fits 224 8 (inr (omega arith)) t;
      small_data = rest-kept_behind 4 (run_bytes v) old new puts fits 232 (omega arith) t;
    }

pub uid-put : (old new : List ℕ) (v : ℤ) → Puts 12 (signed32_bytes v) old new → 1024 ≤ length old → FitsSigned w32 v → inode_at new ≡ record (inode_at old) { uid = v }
uid-put old new v puts long range =
    let size : length (signed32_bytes v) ≡ 4 = length-signed32_bytes v in
    let fits : 12 + length (signed32_bytes v) ≤ length old = omega arith in
    λ t. record {
      magic1 = signed32-kept 12 (signed32_bytes v) old new puts fits 0 (inl (omega arith)) t;
      inode_num = run-kept 12 (signed32_bytes v) old new puts fits 4 (inl (omega arith)) t;
      uid = signed32-put 12 old new v puts (omega arith) range t;
      gid = signed32-kept 12 (signed32_bytes v) old new puts fits 16 (inr (omega arith)) t;
      mode = signed32-kept 12 (signed32_bytes v) old new puts fits 20 (inr (omega arith)) t;
      flags = signed32-kept 12 (signed32_bytes v) old new puts fits 24 (inr (omega arith)) t;
      create_time = signed64-kept 12 (signed32_bytes v) old new puts fits 28 (inr (omega arith)) t;
      last_modified_time = signed64-kept 12 (signed32_bytes v) old new puts fits 36 (inr (omega arith)) t;
      parent = run-kept 12 (signed32_bytes v) old new puts fits 44 (inr (omega arith)) t;
      attributes = run-kept 12 (signed32_bytes v) old new puts fits 52 (inr (omega arith)) t;
      type_code = unsigned-kept 12 (signed32_bytes v) old new puts fits 4 60 (inr (omega arith)) t;
      inode_size = signed32-kept 12 (signed32_bytes v) old new puts fits 64 (inr (omega arith)) t;
      etc = unsigned-kept 12 (signed32_bytes v) old new puts fits 4 68 (inr (omega arith)) t;
      stream_bytes = bytes-kept 12 (signed32_bytes v) old new puts fits 72 144 (inr (omega arith)) t;
      status_change_time = signed64-kept 12 (signed32_bytes v) old new puts fits 216 (inr (omega arith)) t;
      pad = bytes-kept 12 (signed32_bytes v) old new puts fits 224 8 (inr (omega arith)) t;
      small_data = rest-kept_behind 12 (signed32_bytes v) old new puts fits 232 (omega arith) t;
    }

pub gid-put : (old new : List ℕ) (v : ℤ) → Puts 16 (signed32_bytes v) old new → 1024 ≤ length old → FitsSigned w32 v → inode_at new ≡ record (inode_at old) { gid = v }
gid-put old new v puts long range =
    let size : length (signed32_bytes v) ≡ 4 = length-signed32_bytes v in
    let fits : 16 + length (signed32_bytes v) ≤ length old = omega arith in
    λ t. record {
      magic1 = signed32-kept 16 (signed32_bytes v) old new puts fits 0 (inl (omega arith)) t;
      inode_num = run-kept 16 (signed32_bytes v) old new puts fits 4 (inl (omega arith)) t;
      uid = signed32-kept 16 (signed32_bytes v) old new puts fits 12 (inl (omega arith)) t;
      gid = signed32-put 16 old new v puts (omega arith) range t;
      mode = signed32-kept 16 (signed32_bytes v) old new puts fits 20 (inr (omega arith)) t;
      flags = signed32-kept 16 (signed32_bytes v) old new puts fits 24 (inr (omega arith)) t;
      create_time = signed64-kept 16 (signed32_bytes v) old new puts fits 28 (inr (omega arith)) t;
      last_modified_time = signed64-kept 16 (signed32_bytes v) old new puts fits 36 (inr (omega arith)) t;
      parent = run-kept 16 (signed32_bytes v) old new puts fits 44 (inr (omega arith)) t;
      attributes = run-kept 16 (signed32_bytes v) old new puts fits 52 (inr (omega arith)) t;
      type_code = unsigned-kept 16 (signed32_bytes v) old new puts fits 4 60 (inr (omega arith)) t;
      inode_size = signed32-kept 16 (signed32_bytes v) old new puts fits 64 (inr (omega arith)) t;
      etc = unsigned-kept 16 (signed32_bytes v) old new puts fits 4 68 (inr (omega arith)) t;
      stream_bytes = bytes-kept 16 (signed32_bytes v) old new puts fits 72 144 (inr (omega arith)) t;
      status_change_time = signed64-kept 16 (signed32_bytes v) old new puts fits 216 (inr (omega arith)) t;
      pad = bytes-kept 16 (signed32_bytes v) old new puts fits 224 8 (inr (omega arith)) t;
      small_data = rest-kept_behind 16 (signed32_bytes v) old new puts fits 232 (omega arith) t;
    }

pub mode-put : (old new : List ℕ) (v : ℤ) → Puts 20 (signed32_bytes v) old new → 1024 ≤ length old → FitsSigned w32 v → inode_at new ≡ record (inode_at old) { mode = v }
mode-put old new v puts long range =
    let size : length (signed32_bytes v) ≡ 4 = length-signed32_bytes v in
    let fits : 20 + length (signed32_bytes v) ≤ length old = omega arith in
    λ t. record {
      magic1 = signed32-kept 20 (signed32_bytes v) old new puts fits 0 (inl (omega arith)) t;
      inode_num = run-kept 20 (signed32_bytes v) old new puts fits 4 (inl (omega arith)) t;
      uid = signed32-kept 20 (signed32_bytes v) old new puts fits 12 (inl (omega arith)) t;
      gid = signed32-kept 20 (signed32_bytes v) old new puts fits 16 (inl (omega arith)) t;
      mode = signed32-put 20 old new v puts (omega arith) range t;
      flags = signed32-kept 20 (signed32_bytes v) old new puts fits 24 (inr (omega arith)) t;
      create_time = signed64-kept 20 (signed32_bytes v) old new puts fits 28 (inr (omega arith)) t;
      last_modified_time = signed64-kept 20 (signed32_bytes v) old new puts fits 36 (inr (omega arith)) t;
      parent = run-kept 20 (signed32_bytes v) old new puts fits 44 (inr (omega arith)) t;
      attributes = run-kept 20 (signed32_bytes v) old new puts fits 52 (inr (omega arith)) t;
      type_code = unsigned-kept 20 (signed32_bytes v) old new puts fits 4 60 (inr (omega arith)) t;
      inode_size = signed32-kept 20 (signed32_bytes v) old new puts fits 64 (inr (omega arith)) t;
      etc = unsigned-kept 20 (signed32_bytes v) old new puts fits 4 68 (inr (omega arith)) t;
      stream_bytes = bytes-kept 20 (signed32_bytes v) old new puts fits 72 144 (inr (omega arith)) t;
      status_change_time = signed64-kept 20 (signed32_bytes v) old new puts fits 216 (inr (omega arith)) t;
      pad = bytes-kept 20 (signed32_bytes v) old new puts fits 224 8 (inr (omega arith)) t;
      small_data = rest-kept_behind 20 (signed32_bytes v) old new puts fits 232 (omega arith) t;
    }

pub flags-put : (old new : List ℕ) (v : ℤ) → Puts 24 (signed32_bytes v) old new → 1024 ≤ length old → FitsSigned w32 v → inode_at new ≡ record (inode_at old) { flags = v }
flags-put old new v puts long range =
    let size : length (signed32_bytes v) ≡ 4 = length-signed32_bytes v in
    let fits : 24 + length (signed32_bytes v) ≤ length old = omega arith in
    λ t. record {
      magic1 = signed32-kept 24 (signed32_bytes v) old new puts fits 0 (inl (omega arith)) t;
      inode_num = run-kept 24 (signed32_bytes v) old new puts fits 4 (inl (omega arith)) t;
      uid = signed32-kept 24 (signed32_bytes v) old new puts fits 12 (inl (omega arith)) t;
      gid = signed32-kept 24 (signed32_bytes v) old new puts fits 16 (inl (omega arith)) t;
      mode = signed32-kept 24 (signed32_bytes v) old new puts fits 20 (inl (omega arith)) t;
      flags = signed32-put 24 old new v puts (omega arith) range t;
      create_time = signed64-kept 24 (signed32_bytes v) old new puts fits 28 (inr (omega arith)) t;
      last_modified_time = signed64-kept 24 (signed32_bytes v) old new puts fits 36 (inr (omega arith)) t;
      parent = run-kept 24 (signed32_bytes v) old new puts fits 44 (inr (omega arith)) t;
      attributes = run-kept 24 (signed32_bytes v) old new puts fits 52 (inr (omega arith)) t;
      type_code = unsigned-kept 24 (signed32_bytes v) old new puts fits 4 60 (inr (omega arith)) t;
      inode_size = signed32-kept 24 (signed32_bytes v) old new puts fits 64 (inr (omega arith)) t;
      etc = unsigned-kept 24 (signed32_bytes v) old new puts fits 4 68 (inr (omega arith)) t;
      stream_bytes = bytes-kept 24 (signed32_bytes v) old new puts fits 72 144 (inr (omega arith)) t;
      status_change_time = signed64-kept 24 (signed32_bytes v) old new puts fits 216 (inr (omega arith)) t;
      pad = bytes-kept 24 (signed32_bytes v) old new puts fits 224 8 (inr (omega arith)) t;
      small_data = rest-kept_behind 24 (signed32_bytes v) old new puts fits 232 (omega arith) t;
    }

pub create_time-put : (old new : List ℕ) (v : ℤ) → Puts 28 (signed64_bytes v) old new → 1024 ≤ length old → FitsSigned w64 v → inode_at new ≡ record (inode_at old) { create_time = v }
create_time-put old new v puts long range =
    let size : length (signed64_bytes v) ≡ 8 = length-signed64_bytes v in
    let fits : 28 + length (signed64_bytes v) ≤ length old = omega arith in
    λ t. record {
      magic1 = signed32-kept 28 (signed64_bytes v) old new puts fits 0 (inl (omega arith)) t;
      inode_num = run-kept 28 (signed64_bytes v) old new puts fits 4 (inl (omega arith)) t;
      uid = signed32-kept 28 (signed64_bytes v) old new puts fits 12 (inl (omega arith)) t;
      gid = signed32-kept 28 (signed64_bytes v) old new puts fits 16 (inl (omega arith)) t;
      mode = signed32-kept 28 (signed64_bytes v) old new puts fits 20 (inl (omega arith)) t;
      flags = signed32-kept 28 (signed64_bytes v) old new puts fits 24 (inl (omega arith)) t;
      create_time = signed64-put 28 old new v puts (omega arith) range t;
      last_modified_time = signed64-kept 28 (signed64_bytes v) old new puts fits 36 (inr (omega arith)) t;
      parent = run-kept 28 (signed64_bytes v) old new puts fits 44 (inr (omega arith)) t;
      attributes = run-kept 28 (signed64_bytes v) old new puts fits 52 (inr (omega arith)) t;
      type_code = unsigned-kept 28 (signed64_bytes v) old new puts fits 4 60 (inr (omega arith)) t;
      inode_size = signed32-kept 28 (signed64_bytes v) old new puts fits 64 (inr (omega arith)) t;
      etc = unsigned-kept 28 (signed64_bytes v) old new puts fits 4 68 (inr (omega arith)) t;
      stream_bytes = bytes-kept 28 (signed64_bytes v) old new puts fits 72 144 (inr (omega arith)) t;
      status_change_time = signed64-kept 28 (signed64_bytes v) old new puts fits 216 (inr (omega arith)) t;
      pad = bytes-kept 28 (signed64_bytes v) old new puts fits 224 8 (inr (omega arith)) t;
      small_data = rest-kept_behind 28 (signed64_bytes v) old new puts fits 232 (omega arith) t;
    }

pub last_modified_time-put : (old new : List ℕ) (v : ℤ) → Puts 36 (signed64_bytes v) old new → 1024 ≤ length old → FitsSigned w64 v → inode_at new ≡ record (inode_at old) { last_modified_time = v }
last_modified_time-put old new v puts long range =
    let size : length (signed64_bytes v) ≡ 8 = length-signed64_bytes v in
    let fits : 36 + length (signed64_bytes v) ≤ length old = omega arith in
    λ t. record {
      magic1 = signed32-kept 36 (signed64_bytes v) old new puts fits 0 (inl (omega arith)) t;
      inode_num = run-kept 36 (signed64_bytes v) old new puts fits 4 (inl (omega arith)) t;
      uid = signed32-kept 36 (signed64_bytes v) old new puts fits 12 (inl (omega arith)) t;
      gid = signed32-kept 36 (signed64_bytes v) old new puts fits 16 (inl (omega arith)) t;
      mode = signed32-kept 36 (signed64_bytes v) old new puts fits 20 (inl (omega arith)) t;
      flags = signed32-kept 36 (signed64_bytes v) old new puts fits 24 (inl (omega arith)) t;
      create_time = signed64-kept 36 (signed64_bytes v) old new puts fits 28 (inl (omega arith)) t;
      last_modified_time = signed64-put 36 old new v puts (omega arith) range t;
      parent = run-kept 36 (signed64_bytes v) old new puts fits 44 (inr (omega arith)) t;
      attributes = run-kept 36 (signed64_bytes v) old new puts fits 52 (inr (omega arith)) t;
      type_code = unsigned-kept 36 (signed64_bytes v) old new puts fits 4 60 (inr (omega arith)) t;
      inode_size = signed32-kept 36 (signed64_bytes v) old new puts fits 64 (inr (omega arith)) t;
      etc = unsigned-kept 36 (signed64_bytes v) old new puts fits 4 68 (inr (omega arith)) t;
      stream_bytes = bytes-kept 36 (signed64_bytes v) old new puts fits 72 144 (inr (omega arith)) t;
      status_change_time = signed64-kept 36 (signed64_bytes v) old new puts fits 216 (inr (omega arith)) t;
      pad = bytes-kept 36 (signed64_bytes v) old new puts fits 224 8 (inr (omega arith)) t;
      small_data = rest-kept_behind 36 (signed64_bytes v) old new puts fits 232 (omega arith) t;
    }

pub parent-put : (old new : List ℕ) (v : Run) → Puts 44 (run_bytes v) old new → 1024 ≤ length old → FitsSigned w32 v.group → v.start < 2 ^ 16 → v.len < 2 ^ 16 → inode_at new ≡ record (inode_at old) { parent = v }
parent-put old new v puts long range start_range len_range =
    let size : length (run_bytes v) ≡ 8 = length-run_bytes v in
    let fits : 44 + length (run_bytes v) ≤ length old = omega arith in
    λ t. record {
      magic1 = signed32-kept 44 (run_bytes v) old new puts fits 0 (inl (omega arith)) t;
      inode_num = run-kept 44 (run_bytes v) old new puts fits 4 (inl (omega arith)) t;
      uid = signed32-kept 44 (run_bytes v) old new puts fits 12 (inl (omega arith)) t;
      gid = signed32-kept 44 (run_bytes v) old new puts fits 16 (inl (omega arith)) t;
      mode = signed32-kept 44 (run_bytes v) old new puts fits 20 (inl (omega arith)) t;
      flags = signed32-kept 44 (run_bytes v) old new puts fits 24 (inl (omega arith)) t;
      create_time = signed64-kept 44 (run_bytes v) old new puts fits 28 (inl (omega arith)) t;
      last_modified_time = signed64-kept 44 (run_bytes v) old new puts fits 36 (inl (omega arith)) t;
      parent = run-put 44 old new v puts (omega arith) range start_range len_range t;
      attributes = run-kept 44 (run_bytes v) old new puts fits 52 (inr (omega arith)) t;
      type_code = unsigned-kept 44 (run_bytes v) old new puts fits 4 60 (inr (omega arith)) t;
      inode_size = signed32-kept 44 (run_bytes v) old new puts fits 64 (inr (omega arith)) t;
      etc = unsigned-kept 44 (run_bytes v) old new puts fits 4 68 (inr (omega arith)) t;
      stream_bytes = bytes-kept 44 (run_bytes v) old new puts fits 72 144 (inr (omega arith)) t;
      status_change_time = signed64-kept 44 (run_bytes v) old new puts fits 216 (inr (omega arith)) t;
      pad = bytes-kept 44 (run_bytes v) old new puts fits 224 8 (inr (omega arith)) t;
      small_data = rest-kept_behind 44 (run_bytes v) old new puts fits 232 (omega arith) t;
    }

pub attributes-put : (old new : List ℕ) (v : Run) → Puts 52 (run_bytes v) old new → 1024 ≤ length old → FitsSigned w32 v.group → v.start < 2 ^ 16 → v.len < 2 ^ 16 → inode_at new ≡ record (inode_at old) { attributes = v }
attributes-put old new v puts long range start_range len_range =
    let size : length (run_bytes v) ≡ 8 = length-run_bytes v in
    let fits : 52 + length (run_bytes v) ≤ length old = omega arith in
    λ t. record {
      magic1 = signed32-kept 52 (run_bytes v) old new puts fits 0 (inl (omega arith)) t;
      inode_num = run-kept 52 (run_bytes v) old new puts fits 4 (inl (omega arith)) t;
      uid = signed32-kept 52 (run_bytes v) old new puts fits 12 (inl (omega arith)) t;
      gid = signed32-kept 52 (run_bytes v) old new puts fits 16 (inl (omega arith)) t;
      mode = signed32-kept 52 (run_bytes v) old new puts fits 20 (inl (omega arith)) t;
      flags = signed32-kept 52 (run_bytes v) old new puts fits 24 (inl (omega arith)) t;
      create_time = signed64-kept 52 (run_bytes v) old new puts fits 28 (inl (omega arith)) t;
      last_modified_time = signed64-kept 52 (run_bytes v) old new puts fits 36 (inl (omega arith)) t;
      parent = run-kept 52 (run_bytes v) old new puts fits 44 (inl (omega arith)) t;
      attributes = run-put 52 old new v puts (omega arith) range start_range len_range t;
      type_code = unsigned-kept 52 (run_bytes v) old new puts fits 4 60 (inr (omega arith)) t;
      inode_size = signed32-kept 52 (run_bytes v) old new puts fits 64 (inr (omega arith)) t;
      etc = unsigned-kept 52 (run_bytes v) old new puts fits 4 68 (inr (omega arith)) t;
      stream_bytes = bytes-kept 52 (run_bytes v) old new puts fits 72 144 (inr (omega arith)) t;
      status_change_time = signed64-kept 52 (run_bytes v) old new puts fits 216 (inr (omega arith)) t;
      pad = bytes-kept 52 (run_bytes v) old new puts fits 224 8 (inr (omega arith)) t;
      small_data = rest-kept_behind 52 (run_bytes v) old new puts fits 232 (omega arith) t;
    }

pub type_code-put : (old new : List ℕ) (v : ℕ) → Puts 60 (unsigned_bytes 4 v) old new → 1024 ≤ length old → v < 2 ^ 32 → inode_at new ≡ record (inode_at old) { type_code = v }
type_code-put old new v puts long range =
    let size : length (unsigned_bytes 4 v) ≡ 4 = length-unsigned_bytes 4 v in
    let fits : 60 + length (unsigned_bytes 4 v) ≤ length old = omega arith in
    λ t. record {
      magic1 = signed32-kept 60 (unsigned_bytes 4 v) old new puts fits 0 (inl (omega arith)) t;
      inode_num = run-kept 60 (unsigned_bytes 4 v) old new puts fits 4 (inl (omega arith)) t;
      uid = signed32-kept 60 (unsigned_bytes 4 v) old new puts fits 12 (inl (omega arith)) t;
      gid = signed32-kept 60 (unsigned_bytes 4 v) old new puts fits 16 (inl (omega arith)) t;
      mode = signed32-kept 60 (unsigned_bytes 4 v) old new puts fits 20 (inl (omega arith)) t;
      flags = signed32-kept 60 (unsigned_bytes 4 v) old new puts fits 24 (inl (omega arith)) t;
      create_time = signed64-kept 60 (unsigned_bytes 4 v) old new puts fits 28 (inl (omega arith)) t;
      last_modified_time = signed64-kept 60 (unsigned_bytes 4 v) old new puts fits 36 (inl (omega arith)) t;
      parent = run-kept 60 (unsigned_bytes 4 v) old new puts fits 44 (inl (omega arith)) t;
      attributes = run-kept 60 (unsigned_bytes 4 v) old new puts fits 52 (inl (omega arith)) t;
      type_code = unsigned-put 60 old new 4 v puts fits (omega arith) t;
      inode_size = signed32-kept 60 (unsigned_bytes 4 v) old new puts fits 64 (inr (omega arith)) t;
      etc = unsigned-kept 60 (unsigned_bytes 4 v) old new puts fits 4 68 (inr (omega arith)) t;
      stream_bytes = bytes-kept 60 (unsigned_bytes 4 v) old new puts fits 72 144 (inr (omega arith)) t;
      status_change_time = signed64-kept 60 (unsigned_bytes 4 v) old new puts fits 216 (inr (omega arith)) t;
      pad = bytes-kept 60 (unsigned_bytes 4 v) old new puts fits 224 8 (inr (omega arith)) t;
      small_data = rest-kept_behind 60 (unsigned_bytes 4 v) old new puts fits 232 (omega arith) t;
    }

pub inode_size-put : (old new : List ℕ) (v : ℤ) → Puts 64 (signed32_bytes v) old new → 1024 ≤ length old → FitsSigned w32 v → inode_at new ≡ record (inode_at old) { inode_size = v }
inode_size-put old new v puts long range =
    let size : length (signed32_bytes v) ≡ 4 = length-signed32_bytes v in
    let fits : 64 + length (signed32_bytes v) ≤ length old = omega arith in
    λ t. record {
      magic1 = signed32-kept 64 (signed32_bytes v) old new puts fits 0 (inl (omega arith)) t;
      inode_num = run-kept 64 (signed32_bytes v) old new puts fits 4 (inl (omega arith)) t;
      uid = signed32-kept 64 (signed32_bytes v) old new puts fits 12 (inl (omega arith)) t;
      gid = signed32-kept 64 (signed32_bytes v) old new puts fits 16 (inl (omega arith)) t;
      mode = signed32-kept 64 (signed32_bytes v) old new puts fits 20 (inl (omega arith)) t;
      flags = signed32-kept 64 (signed32_bytes v) old new puts fits 24 (inl (omega arith)) t;
      create_time = signed64-kept 64 (signed32_bytes v) old new puts fits 28 (inl (omega arith)) t;
      last_modified_time = signed64-kept 64 (signed32_bytes v) old new puts fits 36 (inl (omega arith)) t;
      parent = run-kept 64 (signed32_bytes v) old new puts fits 44 (inl (omega arith)) t;
      attributes = run-kept 64 (signed32_bytes v) old new puts fits 52 (inl (omega arith)) t;
      type_code = unsigned-kept 64 (signed32_bytes v) old new puts fits 4 60 (inl (omega arith)) t;
      inode_size = signed32-put 64 old new v puts (omega arith) range t;
      etc = unsigned-kept 64 (signed32_bytes v) old new puts fits 4 68 (inr (omega arith)) t;
      stream_bytes = bytes-kept 64 (signed32_bytes v) old new puts fits 72 144 (inr (omega arith)) t;
      status_change_time = signed64-kept 64 (signed32_bytes v) old new puts fits 216 (inr (omega arith)) t;
      pad = bytes-kept 64 (signed32_bytes v) old new puts fits 224 8 (inr (omega arith)) t;
      small_data = rest-kept_behind 64 (signed32_bytes v) old new puts fits 232 (omega arith) t;
    }

pub etc-put : (old new : List ℕ) (v : ℕ) → Puts 68 (unsigned_bytes 4 v) old new → 1024 ≤ length old → v < 2 ^ 32 → inode_at new ≡ record (inode_at old) { etc = v }
etc-put old new v puts long range =
    let size : length (unsigned_bytes 4 v) ≡ 4 = length-unsigned_bytes 4 v in
    let fits : 68 + length (unsigned_bytes 4 v) ≤ length old = omega arith in
    λ t. record {
      magic1 = signed32-kept 68 (unsigned_bytes 4 v) old new puts fits 0 (inl (omega arith)) t;
      inode_num = run-kept 68 (unsigned_bytes 4 v) old new puts fits 4 (inl (omega arith)) t;
      uid = signed32-kept 68 (unsigned_bytes 4 v) old new puts fits 12 (inl (omega arith)) t;
      gid = signed32-kept 68 (unsigned_bytes 4 v) old new puts fits 16 (inl (omega arith)) t;
      mode = signed32-kept 68 (unsigned_bytes 4 v) old new puts fits 20 (inl (omega arith)) t;
      flags = signed32-kept 68 (unsigned_bytes 4 v) old new puts fits 24 (inl (omega arith)) t;
      create_time = signed64-kept 68 (unsigned_bytes 4 v) old new puts fits 28 (inl (omega arith)) t;
      last_modified_time = signed64-kept 68 (unsigned_bytes 4 v) old new puts fits 36 (inl (omega arith)) t;
      parent = run-kept 68 (unsigned_bytes 4 v) old new puts fits 44 (inl (omega arith)) t;
      attributes = run-kept 68 (unsigned_bytes 4 v) old new puts fits 52 (inl (omega arith)) t;
      type_code = unsigned-kept 68 (unsigned_bytes 4 v) old new puts fits 4 60 (inl (omega arith)) t;
      inode_size = signed32-kept 68 (unsigned_bytes 4 v) old new puts fits 64 (inl (omega arith)) t;
      etc = unsigned-put 68 old new 4 v puts fits (omega arith) t;
      stream_bytes = bytes-kept 68 (unsigned_bytes 4 v) old new puts fits 72 144 (inr (omega arith)) t;
      status_change_time = signed64-kept 68 (unsigned_bytes 4 v) old new puts fits 216 (inr (omega arith)) t;
      pad = bytes-kept 68 (unsigned_bytes 4 v) old new puts fits 224 8 (inr (omega arith)) t;
      small_data = rest-kept_behind 68 (unsigned_bytes 4 v) old new puts fits 232 (omega arith) t;
    }

pub stream_bytes-put : (old new v : List ℕ) → Puts 72 v old new → 1024 ≤ length old → length v ≡ 144 → inode_at new ≡ record (inode_at old) { stream_bytes = v }
stream_bytes-put old new v puts long size =
    let fits : 72 + length v ≤ length old = omega arith in
    let own : take 144 (drop 72 new) ≡ v = ap (take 144) (bytes-put 72 v old new puts fits) ∙ take_at v (drop (72 + length v) old) 144 size in
    λ t. record {
      magic1 = signed32-kept 72 v old new puts fits 0 (inl (omega arith)) t;
      inode_num = run-kept 72 v old new puts fits 4 (inl (omega arith)) t;
      uid = signed32-kept 72 v old new puts fits 12 (inl (omega arith)) t;
      gid = signed32-kept 72 v old new puts fits 16 (inl (omega arith)) t;
      mode = signed32-kept 72 v old new puts fits 20 (inl (omega arith)) t;
      flags = signed32-kept 72 v old new puts fits 24 (inl (omega arith)) t;
      create_time = signed64-kept 72 v old new puts fits 28 (inl (omega arith)) t;
      last_modified_time = signed64-kept 72 v old new puts fits 36 (inl (omega arith)) t;
      parent = run-kept 72 v old new puts fits 44 (inl (omega arith)) t;
      attributes = run-kept 72 v old new puts fits 52 (inl (omega arith)) t;
      type_code = unsigned-kept 72 v old new puts fits 4 60 (inl (omega arith)) t;
      inode_size = signed32-kept 72 v old new puts fits 64 (inl (omega arith)) t;
      etc = unsigned-kept 72 v old new puts fits 4 68 (inl (omega arith)) t;
      stream_bytes = own t;
      status_change_time = signed64-kept 72 v old new puts fits 216 (inr (omega arith)) t;
      pad = bytes-kept 72 v old new puts fits 224 8 (inr (omega arith)) t;
      small_data = rest-kept_behind 72 v old new puts fits 232 (omega arith) t;
    }

pub status_change_time-put : (old new : List ℕ) (v : ℤ) → Puts 216 (signed64_bytes v) old new → 1024 ≤ length old → FitsSigned w64 v → inode_at new ≡ record (inode_at old) { status_change_time = v }
status_change_time-put old new v puts long range =
    let size : length (signed64_bytes v) ≡ 8 = length-signed64_bytes v in
    let fits : 216 + length (signed64_bytes v) ≤ length old = omega arith in
    λ t. record {
      magic1 = signed32-kept 216 (signed64_bytes v) old new puts fits 0 (inl (omega arith)) t;
      inode_num = run-kept 216 (signed64_bytes v) old new puts fits 4 (inl (omega arith)) t;
      uid = signed32-kept 216 (signed64_bytes v) old new puts fits 12 (inl (omega arith)) t;
      gid = signed32-kept 216 (signed64_bytes v) old new puts fits 16 (inl (omega arith)) t;
      mode = signed32-kept 216 (signed64_bytes v) old new puts fits 20 (inl (omega arith)) t;
      flags = signed32-kept 216 (signed64_bytes v) old new puts fits 24 (inl (omega arith)) t;
      create_time = signed64-kept 216 (signed64_bytes v) old new puts fits 28 (inl (omega arith)) t;
      last_modified_time = signed64-kept 216 (signed64_bytes v) old new puts fits 36 (inl (omega arith)) t;
      parent = run-kept 216 (signed64_bytes v) old new puts fits 44 (inl (omega arith)) t;
      attributes = run-kept 216 (signed64_bytes v) old new puts fits 52 (inl (omega arith)) t;
      type_code = unsigned-kept 216 (signed64_bytes v) old new puts fits 4 60 (inl (omega arith)) t;
      inode_size = signed32-kept 216 (signed64_bytes v) old new puts fits 64 (inl (omega arith)) t;
      etc = unsigned-kept 216 (signed64_bytes v) old new puts fits 4 68 (inl (omega arith)) t;
      stream_bytes = bytes-kept 216 (signed64_bytes v) old new puts fits 72 144 (inl (omega arith)) t;
      status_change_time = signed64-put 216 old new v puts (omega arith) range t;
      pad = bytes-kept 216 (signed64_bytes v) old new puts fits 224 8 (inr (omega arith)) t;
      small_data = rest-kept_behind 216 (signed64_bytes v) old new puts fits 232 (omega arith) t;
    }

pub pad-put : (old new v : List ℕ) → Puts 224 v old new → 1024 ≤ length old → length v ≡ 8 → inode_at new ≡ record (inode_at old) { pad = v }
pad-put old new v puts long size =
    let fits : 224 + length v ≤ length old = omega arith in
    let own : take 8 (drop 224 new) ≡ v = ap (take 8) (bytes-put 224 v old new puts fits) ∙ take_at v (drop (224 + length v) old) 8 size in
    λ t. record {
      magic1 = signed32-kept 224 v old new puts fits 0 (inl (omega arith)) t;
      inode_num = run-kept 224 v old new puts fits 4 (inl (omega arith)) t;
      uid = signed32-kept 224 v old new puts fits 12 (inl (omega arith)) t;
      gid = signed32-kept 224 v old new puts fits 16 (inl (omega arith)) t;
      mode = signed32-kept 224 v old new puts fits 20 (inl (omega arith)) t;
      flags = signed32-kept 224 v old new puts fits 24 (inl (omega arith)) t;
      create_time = signed64-kept 224 v old new puts fits 28 (inl (omega arith)) t;
      last_modified_time = signed64-kept 224 v old new puts fits 36 (inl (omega arith)) t;
      parent = run-kept 224 v old new puts fits 44 (inl (omega arith)) t;
      attributes = run-kept 224 v old new puts fits 52 (inl (omega arith)) t;
      type_code = unsigned-kept 224 v old new puts fits 4 60 (inl (omega arith)) t;
      inode_size = signed32-kept 224 v old new puts fits 64 (inl (omega arith)) t;
      etc = unsigned-kept 224 v old new puts fits 4 68 (inl (omega arith)) t;
      stream_bytes = bytes-kept 224 v old new puts fits 72 144 (inl (omega arith)) t;
      status_change_time = signed64-kept 224 v old new puts fits 216 (inl (omega arith)) t;
      pad = own t;
      small_data = rest-kept_behind 224 v old new puts fits 232 (omega arith) t;
    }

pub small_data-put : (old new v : List ℕ) → Puts 232 v old new → 1024 ≤ length old → length v ≡ length old - 232 → inode_at new ≡ record (inode_at old) { small_data = v }
small_data-put old new v puts long size =
    let fits : 232 + length v ≤ length old = omega arith in
    let own : drop 232 new ≡ v = bytes-put 232 v old new puts fits ∙ ap (λ r. v ++ r) (drop_all (232 + length v) old (omega arith)) ∙ append-nil v in
    λ t. record {
      magic1 = signed32-kept 232 v old new puts fits 0 (inl (omega arith)) t;
      inode_num = run-kept 232 v old new puts fits 4 (inl (omega arith)) t;
      uid = signed32-kept 232 v old new puts fits 12 (inl (omega arith)) t;
      gid = signed32-kept 232 v old new puts fits 16 (inl (omega arith)) t;
      mode = signed32-kept 232 v old new puts fits 20 (inl (omega arith)) t;
      flags = signed32-kept 232 v old new puts fits 24 (inl (omega arith)) t;
      create_time = signed64-kept 232 v old new puts fits 28 (inl (omega arith)) t;
      last_modified_time = signed64-kept 232 v old new puts fits 36 (inl (omega arith)) t;
      parent = run-kept 232 v old new puts fits 44 (inl (omega arith)) t;
      attributes = run-kept 232 v old new puts fits 52 (inl (omega arith)) t;
      type_code = unsigned-kept 232 v old new puts fits 4 60 (inl (omega arith)) t;
      inode_size = signed32-kept 232 v old new puts fits 64 (inl (omega arith)) t;
      etc = unsigned-kept 232 v old new puts fits 4 68 (inl (omega arith)) t;
      stream_bytes = bytes-kept 232 v old new puts fits 72 144 (inl (omega arith)) t;
      status_change_time = signed64-kept 232 v old new puts fits 216 (inl (omega arith)) t;
      pad = bytes-kept 232 v old new puts fits 224 8 (inl (omega arith)) t;
      small_data = own t;
    }

pub direct-put : (old new : List ℕ) (i : ℕ) (v : Run) → Puts (72 + 8 * i) (run_bytes v) old new → 1024 ≤ length old → i < 12 → FitsSigned w32 v.group → v.start < 2 ^ 16 → v.len < 2 ^ 16 → stream_at new ≡ record (stream_at old) { direct = set (runs_in 12 old 72) i v }
direct-put old new i v puts long inside range start_range len_range =
    let size : length (run_bytes v) ≡ 8 = length-run_bytes v in
    let fits : 72 + 8 * i + length (run_bytes v) ≤ length old = omega arith in
    λ t. record {
      direct = runs-put old new 12 72 i v puts (omega arith) inside range start_range len_range t;
      max_direct_range = signed64-kept (72 + 8 * i) (run_bytes v) old new puts fits 168 (inr (omega arith)) t;
      indirect = run-kept (72 + 8 * i) (run_bytes v) old new puts fits 176 (inr (omega arith)) t;
      max_indirect_range = signed64-kept (72 + 8 * i) (run_bytes v) old new puts fits 184 (inr (omega arith)) t;
      double_indirect = run-kept (72 + 8 * i) (run_bytes v) old new puts fits 192 (inr (omega arith)) t;
      max_double_indirect_range = signed64-kept (72 + 8 * i) (run_bytes v) old new puts fits 200 (inr (omega arith)) t;
      size = signed64-kept (72 + 8 * i) (run_bytes v) old new puts fits 208 (inr (omega arith)) t;
    }

pub max_direct_range-put : (old new : List ℕ) (v : ℤ) → Puts 168 (signed64_bytes v) old new → 1024 ≤ length old → FitsSigned w64 v → stream_at new ≡ record (stream_at old) { max_direct_range = v }
max_direct_range-put old new v puts long range =
    let size : length (signed64_bytes v) ≡ 8 = length-signed64_bytes v in
    let fits : 168 + length (signed64_bytes v) ≤ length old = omega arith in
    λ t. record {
      direct = runs-kept 168 (signed64_bytes v) old new puts fits 12 72 (inl (omega arith)) t;
      max_direct_range = signed64-put 168 old new v puts (omega arith) range t;
      indirect = run-kept 168 (signed64_bytes v) old new puts fits 176 (inr (omega arith)) t;
      max_indirect_range = signed64-kept 168 (signed64_bytes v) old new puts fits 184 (inr (omega arith)) t;
      double_indirect = run-kept 168 (signed64_bytes v) old new puts fits 192 (inr (omega arith)) t;
      max_double_indirect_range = signed64-kept 168 (signed64_bytes v) old new puts fits 200 (inr (omega arith)) t;
      size = signed64-kept 168 (signed64_bytes v) old new puts fits 208 (inr (omega arith)) t;
    }

pub indirect-put : (old new : List ℕ) (v : Run) → Puts 176 (run_bytes v) old new → 1024 ≤ length old → FitsSigned w32 v.group → v.start < 2 ^ 16 → v.len < 2 ^ 16 → stream_at new ≡ record (stream_at old) { indirect = v }
indirect-put old new v puts long range start_range len_range =
    let size : length (run_bytes v) ≡ 8 = length-run_bytes v in
    let fits : 176 + length (run_bytes v) ≤ length old = omega arith in
    λ t. record {
      direct = runs-kept 176 (run_bytes v) old new puts fits 12 72 (inl (omega arith)) t;
      max_direct_range = signed64-kept 176 (run_bytes v) old new puts fits 168 (inl (omega arith)) t;
      indirect = run-put 176 old new v puts (omega arith) range start_range len_range t;
      max_indirect_range = signed64-kept 176 (run_bytes v) old new puts fits 184 (inr (omega arith)) t;
      double_indirect = run-kept 176 (run_bytes v) old new puts fits 192 (inr (omega arith)) t;
      max_double_indirect_range = signed64-kept 176 (run_bytes v) old new puts fits 200 (inr (omega arith)) t;
      size = signed64-kept 176 (run_bytes v) old new puts fits 208 (inr (omega arith)) t;
    }

pub max_indirect_range-put : (old new : List ℕ) (v : ℤ) → Puts 184 (signed64_bytes v) old new → 1024 ≤ length old → FitsSigned w64 v → stream_at new ≡ record (stream_at old) { max_indirect_range = v }
max_indirect_range-put old new v puts long range =
    let size : length (signed64_bytes v) ≡ 8 = length-signed64_bytes v in
    let fits : 184 + length (signed64_bytes v) ≤ length old = omega arith in
    λ t. record {
      direct = runs-kept 184 (signed64_bytes v) old new puts fits 12 72 (inl (omega arith)) t;
      max_direct_range = signed64-kept 184 (signed64_bytes v) old new puts fits 168 (inl (omega arith)) t;
      indirect = run-kept 184 (signed64_bytes v) old new puts fits 176 (inl (omega arith)) t;
      max_indirect_range = signed64-put 184 old new v puts (omega arith) range t;
      double_indirect = run-kept 184 (signed64_bytes v) old new puts fits 192 (inr (omega arith)) t;
      max_double_indirect_range = signed64-kept 184 (signed64_bytes v) old new puts fits 200 (inr (omega arith)) t;
      size = signed64-kept 184 (signed64_bytes v) old new puts fits 208 (inr (omega arith)) t;
    }

pub double_indirect-put : (old new : List ℕ) (v : Run) → Puts 192 (run_bytes v) old new → 1024 ≤ length old → FitsSigned w32 v.group → v.start < 2 ^ 16 → v.len < 2 ^ 16 → stream_at new ≡ record (stream_at old) { double_indirect = v }
double_indirect-put old new v puts long range start_range len_range =
    let size : length (run_bytes v) ≡ 8 = length-run_bytes v in
    let fits : 192 + length (run_bytes v) ≤ length old = omega arith in
    λ t. record {
      direct = runs-kept 192 (run_bytes v) old new puts fits 12 72 (inl (omega arith)) t;
      max_direct_range = signed64-kept 192 (run_bytes v) old new puts fits 168 (inl (omega arith)) t;
      indirect = run-kept 192 (run_bytes v) old new puts fits 176 (inl (omega arith)) t;
      max_indirect_range = signed64-kept 192 (run_bytes v) old new puts fits 184 (inl (omega arith)) t;
      double_indirect = run-put 192 old new v puts (omega arith) range start_range len_range t;
      max_double_indirect_range = signed64-kept 192 (run_bytes v) old new puts fits 200 (inr (omega arith)) t;
      size = signed64-kept 192 (run_bytes v) old new puts fits 208 (inr (omega arith)) t;
    }

pub max_double_indirect_range-put : (old new : List ℕ) (v : ℤ) → Puts 200 (signed64_bytes v) old new → 1024 ≤ length old → FitsSigned w64 v → stream_at new ≡ record (stream_at old) { max_double_indirect_range = v }
max_double_indirect_range-put old new v puts long range =
    let size : length (signed64_bytes v) ≡ 8 = length-signed64_bytes v in
    let fits : 200 + length (signed64_bytes v) ≤ length old = omega arith in
    λ t. record {
      direct = runs-kept 200 (signed64_bytes v) old new puts fits 12 72 (inl (omega arith)) t;
      max_direct_range = signed64-kept 200 (signed64_bytes v) old new puts fits 168 (inl (omega arith)) t;
      indirect = run-kept 200 (signed64_bytes v) old new puts fits 176 (inl (omega arith)) t;
      max_indirect_range = signed64-kept 200 (signed64_bytes v) old new puts fits 184 (inl (omega arith)) t;
      double_indirect = run-kept 200 (signed64_bytes v) old new puts fits 192 (inl (omega arith)) t;
      max_double_indirect_range = signed64-put 200 old new v puts (omega arith) range t;
      size = signed64-kept 200 (signed64_bytes v) old new puts fits 208 (inr (omega arith)) t;
    }

pub size-put : (old new : List ℕ) (v : ℤ) → Puts 208 (signed64_bytes v) old new → 1024 ≤ length old → FitsSigned w64 v → stream_at new ≡ record (stream_at old) { size = v }
size-put old new v puts long range =
    let size : length (signed64_bytes v) ≡ 8 = length-signed64_bytes v in
    let fits : 208 + length (signed64_bytes v) ≤ length old = omega arith in
    λ t. record {
      direct = runs-kept 208 (signed64_bytes v) old new puts fits 12 72 (inl (omega arith)) t;
      max_direct_range = signed64-kept 208 (signed64_bytes v) old new puts fits 168 (inl (omega arith)) t;
      indirect = run-kept 208 (signed64_bytes v) old new puts fits 176 (inl (omega arith)) t;
      max_indirect_range = signed64-kept 208 (signed64_bytes v) old new puts fits 184 (inl (omega arith)) t;
      double_indirect = run-kept 208 (signed64_bytes v) old new puts fits 192 (inl (omega arith)) t;
      max_double_indirect_range = signed64-kept 208 (signed64_bytes v) old new puts fits 200 (inl (omega arith)) t;
      size = signed64-put 208 old new v puts (omega arith) range t;
    }
