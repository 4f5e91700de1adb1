-- The fields of a block of zeros.
use Rattle.std.proofs.Common.{◌≡◌, ℕ, zero, suc, pos, ◌+◌, ◌-◌, ◌≤◌, List, ◌∷◌, take, drop, get_or, refl, ◌∙◌, ap, arith}
use Rattle.std.specs.Prelude.{replicate}
use Rattle.std.specs.Int.{w32, w64, cast_signed}
use Rattle.std.proofs.lemmas.List.{drop-replicate, take-replicate}
use Rattle.byteorder.specs.Endian.{little_number, little_from}
use Rattle.bfs_bytes.specs.declared.Run.{Run}
use Rattle.bfs_bytes.specs.Fields.{unsigned_at, signed32_at, signed64_at, run_in}
use Rattle.bfs_inode.specs.Inode.{inode_at, stream_at, runs_in}
use Rattle.bfs_make.specs.Made.{zero_run, no_stream}

abbrev zeros : ℕ → List ℕ
zeros n = replicate n 0

zero_at : (n i : ℕ) → get_or (zeros n) i 0 ≡ 0
zero_at zero i = refl
zero_at (suc n) zero = refl
zero_at (suc n) (suc i) = zero_at n i

-- a number of zeros
zero_from : (m i n : ℕ) → little_from i m (zeros n) ≡ 0
zero_from zero i n = refl
zero_from (suc m) i n = omega (arith, zero_at n i, zero_from m (suc i) n)

module _ (n : ℕ) where
  zero_number : (m at : ℕ) → unsigned_at m (replicate n 0) at ≡ 0
  unfolding unsigned_at
  zero_number m at = ap (little_number m) (drop-replicate at n 0) ∙ zero_from m 0 (n - at)

  zero_signed32 : (at : ℕ) → signed32_at (replicate n 0) at ≡ pos 0
  unfolding signed32_at
  zero_signed32 at = ap (cast_signed w32) (zero_number 4 at)

  zero_signed64 : (at : ℕ) → signed64_at (replicate n 0) at ≡ pos 0
  unfolding signed64_at
  zero_signed64 at = ap (cast_signed w64) (zero_number 8 at)

  zero_run_in : (at : ℕ) → run_in (replicate n 0) at ≡ zero_run
  unfolding run_in
  zero_run_in at = λ i. record { group = zero_signed32 at i; start = zero_number 2 (at + 4) i; len = zero_number 2 (at + 6) i }

  zero_runs : (k at : ℕ) → runs_in k (replicate n 0) at ≡ replicate k zero_run
  unfolding runs_in
  zero_runs zero at = refl
  zero_runs (suc k) at = ap (λ (r : Run). r ∷ runs_in k (replicate n 0) (at + 8)) (zero_run_in at) ∙ ap (λ (rs : List Run). zero_run ∷ rs) (zero_runs k (at + 8))

  pub zero_inode : 232 ≤ n → inode_at (replicate n 0) ≡ record {
    magic1 = pos 0;
    inode_num = zero_run;
    uid = pos 0;
    gid = pos 0;
    mode = pos 0;
    flags = pos 0;
    create_time = pos 0;
    last_modified_time = pos 0;
    parent = zero_run;
    attributes = zero_run;
    type_code = 0;
    inode_size = pos 0;
    etc = 0;
    stream_bytes = take 144 (drop 72 (replicate n 0));
    status_change_time = pos 0;
    pad = replicate 8 0;
    small_data = replicate (n - 232) 0;
  }
  zero_inode long =
      let padding : take 8 (drop 224 (replicate n 0)) ≡ replicate 8 0 = ap (take 8) (drop-replicate 224 n 0) ∙ take-replicate 8 (n - 224) 0 (omega (arith, long)) in
      λ i. record {
        magic1 = zero_signed32 0 i;
        inode_num = zero_run_in 4 i;
        uid = zero_signed32 12 i;
        gid = zero_signed32 16 i;
        mode = zero_signed32 20 i;
        flags = zero_signed32 24 i;
        create_time = zero_signed64 28 i;
        last_modified_time = zero_signed64 36 i;
        parent = zero_run_in 44 i;
        attributes = zero_run_in 52 i;
        type_code = zero_number 4 60 i;
        inode_size = zero_signed32 64 i;
        etc = zero_number 4 68 i;
        stream_bytes = take 144 (drop 72 (replicate n 0));
        status_change_time = zero_signed64 216 i;
        pad = padding i;
        small_data = drop-replicate 232 n 0 i;
      }

  pub zero_stream : stream_at (replicate n 0) ≡ no_stream
  zero_stream = λ i. record {
    direct = zero_runs 12 72 i;
    max_direct_range = zero_signed64 168 i;
    indirect = zero_run_in 176 i;
    max_indirect_range = zero_signed64 184 i;
    double_indirect = zero_run_in 192 i;
    max_double_indirect_range = zero_signed64 200 i;
    size = zero_signed64 208 i;
  }
