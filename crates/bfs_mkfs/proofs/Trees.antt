-- An inode and a header written over zeros.
use Rattle.std.proofs.Common.{◌≡◌, ⊎_elim, ℕ, zero, suc, pos, ◌+◌, ◌-◌, ◌*◌, ◌≤◌, List, [], ◌∷◌, ◌++◌, length, take, drop, get_or, refl, sym, ◌∙◌, ap, subst, arith, Result, Ok, Err, IfOk, length-append, append_assoc}
use Rattle.std.specs.Prelude.{replicate}
use Rattle.std.specs.Int.{w32, w64, cast_signed}
use Rattle.std.proofs.lemmas.List.{drop-replicate, take-replicate, drop_at, take_at, drop-drop, length-replicate}
use Rattle.byteorder.specs.Endian.{little_number, little_from}
use Rattle.bfs_bytes.specs.Fields.{Puts, unsigned_at, signed32_at, signed64_at, run_in, unsigned_bytes, signed64_bytes}
use Rattle.bfs_inode.specs.Inode.{inode_at, stream_at, runs_in}
use Rattle.bfs_node.specs.declared.header.Header.{Header}
use Rattle.bfs_node.specs.Header.{header_bytes, header_at}
use Rattle.bfs_super.specs.Geometry.{IsBlockSize}
use Rattle.bfs_node.specs.Page.{Row}
use Rattle.bfs_mkfs.specs.declared.tree.NewTree.{NewTree}
use Rattle.bfs_mkfs.specs.Laid.{zero_run, pages_length, IsNewInode, IsNewTree, IsLeaf, new_header}

abbrev zeros : ℕ → List ℕ
zeros n = replicate n 0

zero_at : (n i : ℕ) → get_or (zeros n) i 0 ≡ 0
zero_at zero i = refl
zero_at (suc n) zero = refl
zero_at (suc n) (suc i) = zero_at n i

-- a number of zeros
zero_from : (m i n : ℕ) → little_from i m (zeros n) ≡ 0
zero_from zero i n = refl
zero_from (suc m) i n = omega (arith, zero_at n i, zero_from m (suc i) n)

module _ (n : ℕ) where
  zero_number : (m at : ℕ) → unsigned_at m (replicate n 0) at ≡ 0
  unfolding unsigned_at
  zero_number m at = ap (little_number m) (drop-replicate at n 0) ∙ zero_from m 0 (n - at)

  pub zero_signed32 : (at : ℕ) → signed32_at (replicate n 0) at ≡ pos 0
  unfolding signed32_at
  zero_signed32 at = ap (cast_signed w32) (zero_number 4 at)

  zero_signed64 : (at : ℕ) → signed64_at (replicate n 0) at ≡ pos 0
  unfolding signed64_at
  zero_signed64 at = ap (cast_signed w64) (zero_number 8 at)

  zero_run_in : (at : ℕ) → run_in (replicate n 0) at ≡ zero_run
  unfolding run_in
  zero_run_in at = λ i. record { group = zero_signed32 at i; start = zero_number 2 (at + 4) i; len = zero_number 2 (at + 6) i }

  zero_runs : (k at : ℕ) → runs_in k (replicate n 0) at ≡ replicate k zero_run
  unfolding runs_in
  zero_runs zero at = refl
  zero_runs (suc k) at = ap (λ r. r ∷ runs_in k (replicate n 0) (at + 8)) (zero_run_in at) ∙ ap (λ rs. zero_run ∷ rs) (zero_runs k (at + 8))

  pub zero_inode : 232 ≤ n → inode_at (replicate n 0) ≡ record {
    magic1 = pos 0;
    inode_num = zero_run;
    uid = pos 0;
    gid = pos 0;
    mode = pos 0;
    flags = pos 0;
    create_time = pos 0;
    last_modified_time = pos 0;
    parent = zero_run;
    attributes = zero_run;
    type_code = 0;
    inode_size = pos 0;
    etc = 0;
    stream_bytes = take 144 (drop 72 (replicate n 0));
    status_change_time = pos 0;
    pad = replicate 8 0;
    small_data = replicate (n - 232) 0;
  }
  zero_inode long =
      let padding : take 8 (drop 224 (replicate n 0)) ≡ replicate 8 0 = ap (take 8) (drop-replicate 224 n 0) ∙ take-replicate 8 (n - 224) 0 (omega (arith, long)) in
      λ i. record {
        magic1 = zero_signed32 0 i;
        inode_num = zero_run_in 4 i;
        uid = zero_signed32 12 i;
        gid = zero_signed32 16 i;
        mode = zero_signed32 20 i;
        flags = zero_signed32 24 i;
        create_time = zero_signed64 28 i;
        last_modified_time = zero_signed64 36 i;
        parent = zero_run_in 44 i;
        attributes = zero_run_in 52 i;
        type_code = zero_number 4 60 i;
        inode_size = zero_signed32 64 i;
        etc = zero_number 4 68 i;
        stream_bytes = take 144 (drop 72 (replicate n 0));
        status_change_time = zero_signed64 216 i;
        pad = padding i;
        small_data = drop-replicate 232 n 0 i;
      }

  pub zero_stream : stream_at (replicate n 0) ≡ record {
    direct = replicate 12 zero_run;
    max_direct_range = pos 0;
    indirect = zero_run;
    max_indirect_range = pos 0;
    double_indirect = zero_run;
    max_double_indirect_range = pos 0;
    size = pos 0;
  }
  zero_stream = λ i. record {
    direct = zero_runs 12 72 i;
    max_direct_range = zero_signed64 168 i;
    indirect = zero_run_in 176 i;
    max_indirect_range = zero_signed64 184 i;
    double_indirect = zero_run_in 192 i;
    max_double_indirect_range = zero_signed64 200 i;
    size = zero_signed64 208 i;
  }

length-header : (h : Header) → length (header_bytes h) ≡ 40
unfolding header_bytes unsigned_bytes signed64_bytes
length-header h = refl

pub header_behind : (h : Header) (new : List ℕ) → Puts 0 (header_bytes h) (zeros 1024) new → drop 40 new ≡ zeros 984
header_behind h new puts =
    let behind : List ℕ = drop (0 + length (header_bytes h)) (zeros 1024) in
    let from : new ≡ header_bytes h ++ behind = puts in
    ap (drop 40) from ∙ drop_at (header_bytes h) behind 40 (length-header h)
    ∙ ap (λ (m : ℕ). drop (0 + m) (zeros 1024)) (length-header h) ∙ drop-replicate 40 1024 0

pub block_bounds : (size : ℕ) → IsBlockSize size → (1024 ≤ size) × (size ≤ 8192)
block_bounds size is = ⊎_elim (λ e. (omega (arith, e), omega (arith, e))) (λ rest. ⊎_elim (λ e. (omega (arith, e), omega (arith, e))) (λ more. ⊎_elim (λ e. (omega (arith, e), omega (arith, e))) (λ e. (omega (arith, e), omega (arith, e))) more) rest) is

-- the parts of a tree, end to end
pub new_tree : (size : ℕ) (t : NewTree) (rows : List Row) (inode header leaf rest : List ℕ)
    → length inode ≡ size → length header ≡ 1024 → length leaf ≡ 1024 → 2048 ≤ pages_length size * size
    → IsNewInode size t inode → header_at header ≡ new_header t.kind → drop 40 header ≡ zeros 984 → IsLeaf rows leaf → rest ≡ zeros (pages_length size * size - 2048)
    → IsNewTree size t rows (inode ++ (header ++ (leaf ++ rest)))
new_tree size t rows inode header leaf rest l1 l2 l3 room is head behind is_leaf is_rest =
    let all : List ℕ = inode ++ (header ++ (leaf ++ rest)) in
    let from_header : drop size all ≡ header ++ (leaf ++ rest) = drop_at inode (header ++ (leaf ++ rest)) size l1 in
    let from_leaf : drop (size + 1024) all ≡ leaf ++ rest = sym (drop-drop 1024 size all) ∙ ap (drop 1024) from_header ∙ drop_at header (leaf ++ rest) 1024 l2 in
    let from_rest : drop (size + 2048) all ≡ rest = ap (λ (n : ℕ). drop n all) (omega arith) ∙ sym (drop-drop 1024 (size + 1024) all) ∙ ap (drop 1024) from_leaf ∙ drop_at leaf rest 1024 l3 in
    let the_header : take 1024 (drop size all) ≡ header = ap (take 1024) from_header ∙ take_at header (leaf ++ rest) 1024 l2 in
    let the_leaf : take 1024 (drop (size + 1024) all) ≡ leaf = ap (take 1024) from_leaf ∙ take_at leaf rest 1024 l3 in
    record {
      long = omega (arith, length-append inode (header ++ (leaf ++ rest)), length-append header (leaf ++ rest), length-append leaf rest, l1, l2, l3, ap length is_rest ∙ length-replicate {A = ℕ} (pages_length size * size - 2048) 0, room);
      inode = subst (IsNewInode size t) (sym (take_at inode (header ++ (leaf ++ rest)) size l1)) is;
      header = ap header_at the_header ∙ head;
      header_rest = ap (drop 40) the_header ∙ behind;
      leaf = subst (IsLeaf rows) (sym the_leaf) is_leaf;
      rest = from_rest ∙ is_rest;
    }

-- five parts appended one by one
pub appended_four : (old a b c d s1 s2 s3 new : List ℕ) → s1 ≡ old ++ a → s2 ≡ s1 ++ b → s3 ≡ s2 ++ c → new ≡ s3 ++ d → new ≡ old ++ (a ++ (b ++ (c ++ d)))
appended_four old a b c d s1 s2 s3 new e1 e2 e3 e4 =
    e4 ∙ ap (λ (l : List ℕ). l ++ d) (e3 ∙ ap (λ (l : List ℕ). l ++ c) (e2 ∙ ap (λ (l : List ℕ). l ++ b) e1))
    ∙ append_assoc (old ++ a ++ b) c d ∙ append_assoc (old ++ a) b (c ++ d) ∙ append_assoc old a (b ++ (c ++ d))

-- the pages of a tree have at least 2,048 bytes
pub pages_of : (size : ℕ) → IsBlockSize size → 2048 ≤ pages_length size * size
pages_of size is =
    let at : (n : ℕ) → size ≡ n → 2048 ≤ pages_length n * n → 2048 ≤ pages_length size * size = λ n e le. subst (λ (m : ℕ). 2048 ≤ pages_length m * m) (sym e) le in
    ⊎_elim (λ e. at 1024 e (omega arith)) (λ rest. ⊎_elim (λ e. at 2048 e (omega arith)) (λ more. ⊎_elim (λ e. at 4096 e (omega arith)) (λ e. at 8192 e (omega arith)) more) rest) is

pub ok_map : {T E : Type 0} {P Q : T → Type 0} (r : Result T E) → IfOk r P → ((v : T) → P v → Q v) → IfOk r Q
ok_map (Ok v) p f = f v p
ok_map (Err e) p f = tt

-- five parts put end to end
pub end_to_end : (s0 a b c d e s1 s2 s3 s4 s5 : List ℕ) → s0 ≡ [] → s1 ≡ s0 ++ a → s2 ≡ s1 ++ b → s3 ≡ s2 ++ c → s4 ≡ s3 ++ d → s5 ≡ s4 ++ e → s5 ≡ a ++ (b ++ (c ++ (d ++ e)))
end_to_end s0 a b c d e s1 s2 s3 s4 s5 e0 e1 e2 e3 e4 e5 =
    let first : s1 ≡ a = e1 ∙ ap (λ (l : List ℕ). l ++ a) e0 in
    appended_four a b c d e s2 s3 s4 s5 (e2 ∙ ap (λ (l : List ℕ). l ++ b) first) e3 e4 e5
