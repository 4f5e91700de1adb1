use Rattle.std.proofs.Common.{◌≡◌, ◌⊎◌, ◌≤◌, ◌<◌, ◌+◌, ◌-◌, ◌%◌, ◌∙◌, ◌++◌, ℕ, List, [], length, take, drop, min, IfOk, refl, sym, ap, subst, arith}
use Rattle.std.proofs.lemmas.List.{take_at}
use Rattle.bfs_device.proofs.Sizes.{sizes}
use Rattle.bfs_core.proofs.Images.{some_bytes}
use Rattle.bfs_commit.specs.Open.{IsEven, IsOpen, OpenView, open_of, open_with, reads_next}
use Rattle.bfs_commit.proofs.Asked.{joined_rested}
use Rattle.bfs_file_io.proofs.Making.{noted_even, noted_open, open_rested, open_unloaded, ready_of}
use Rattle.bfs_file_io.proofs.open.make_next.Goals as goal

pub write_next-made-requires-clause-room : goal.write_next-made-requires-clause-room
write_next-made-requires-clause-room g c =
    let most : c.args.device.now.books.sup.block_size ≤ 8192 = (sizes c.args.device.now.books.sup c.steady.ensures.steady.valid).2 in
    let long : length c.as_mut_slice-block.result.now ≡ 8192 = ap length c.as_mut_slice-block.ensures.value ∙ c.open.invariant.0 in
    omega (arith, most, long, c.requires.size)

pub read_next-made-requires-clause-room : goal.read_next-made-requires-clause-room
read_next-made-requires-clause-room g c =
    let most : c.args.device.now.books.sup.block_size ≤ 8192 = (sizes c.args.device.now.books.sup c.steady.ensures.steady.valid).2 in
    let long : length c.as_mut_slice-buffer.result.now ≡ 8192 = ap length c.as_mut_slice-buffer.ensures.value ∙ c.open.invariant.0 in
    omega (arith, most, long, c.requires.size)

pub returns-then-open-clause-even : goal.returns-then-open-clause-even
returns-then-open-clause-even g c =
    let i = c.open.inside in
    let z : ℕ = c.args.device.now.books.sup.block_size in
    let p : OpenView = open_of i.hold i.places.items i.bytes.items i.done i.fault in
    let some : 0 < c.args.size = subst (λ (n : ℕ). 0 < n) (sym c.requires.size) (some_bytes c.args.device.now.books.sup c.steady.ensures.steady.valid) in
    let more : i.done < length i.bytes.items = subst (λ (v : OpenView). v.done < length v.bytes) (sym c.open.view_is) c.requires.more in
    let even : IsEven c.args.size p = subst (IsEven c.args.size) (sym c.open.view_is) c.requires.even in
    let count : IfOk c.write_next-made.result (λ n. n ≡ min (length i.bytes.items - i.done) (c.args.size - (i.hold.at + i.done) % c.args.size)) =
    subst (λ (n : ℕ). IfOk c.write_next-made.result (λ k. k ≡ min (length i.bytes.items - i.done) (n - (i.hold.at + i.done) % n))) (sym c.requires.size)
    (subst (λ (xs : List ℕ). IfOk c.write_next-made.result (λ k. k ≡ min (length xs - i.done) (z - (i.hold.at + i.done) % z))) c.as_slice-bytes.ensures.value c.write_next-made.ensures.count) in
    noted_even p c.note_made-then-open.new.open c.args.size c.write_next-made.result c.note_made-then-open.result c.note_made-then-open.ensures.ok c.note_made-then-open.ensures.failed some more even count

pub returns-then-open-clause-open : goal.returns-then-open-clause-open
returns-then-open-clause-open g c = λ sp joined volume opened.
    let i = c.open.inside in
    let old = c.args.device.now in
    let new = c.write_next-made.new.device in
    let p : OpenView = open_of i.hold i.places.items i.bytes.items i.done i.fault in
    let loaded : List ℕ = take i.loaded i.block.items in
    let same : open_with i.hold c.as_slice-places.result.now c.as_slice-bytes.result.now i.done i.fault loaded ≡ open_with i.hold i.places.items i.bytes.items i.done i.fault loaded = λ k. open_with i.hold (c.as_slice-places.ensures.value k) (c.as_slice-bytes.ensures.value k) i.done i.fault loaded in
    let after_it : open_of i.hold c.as_slice-places.result.now c.as_slice-bytes.result.now i.done i.fault ≡ p = λ k. open_of i.hold (c.as_slice-places.ensures.value k) (c.as_slice-bytes.ensures.value k) i.done i.fault in
    let ready : (min (length c.as_slice-bytes.result.now - i.done) (c.args.size - (i.hold.at + i.done) % c.args.size) ≡ c.args.size) ⊎ (loaded ≡ take c.args.size c.as_mut_slice-block.result.now) =
    ready_of c.args.size (open_with i.hold i.places.items i.bytes.items i.done i.fault loaded) c.as_slice-bytes.result.now c.as_mut_slice-block.result.now i.block.items i.loaded c.if-open.true (ap (reads_next c.args.size) c.open.view_is ∙ sym c.reads_next.ensures ∙ c.if-reads_next.false) refl (omega (arith, c.open.invariant.0, c.open.invariant.2)) c.as_mut_slice-block.ensures.value c.as_slice-bytes.ensures.value in
    let here = subst (λ (v : OpenView). IsOpen v sp.view old.books (g.D.Disk.state old.disk)) (sym c.open.view_is ∙ sym same) opened in
    let all = c.write_next-made.ensures.open sp i.hold i.fault loaded joined volume refl c.if-open.true here ready in (
      all.0,
      noted_open p c.note_made-then-open.new.open c.args.size c.write_next-made.result c.note_made-then-open.result c.note_made-then-open.ensures.ok c.note_made-then-open.ensures.failed sp.view new.books (g.D.Disk.state new.disk)
          (subst (λ (v : OpenView). IsOpen v sp.view new.books (g.D.Disk.state new.disk)) after_it all.1)
          (subst (λ (v : OpenView). IfOk c.write_next-made.result (λ n. IsOpen (record v { done = v.done + n; loaded = [] }) sp.view new.books (g.D.Disk.state new.disk))) after_it all.2),
    )

pub returns-then-open-clause-others : goal.returns-then-open-clause-others
returns-then-open-clause-others g c = λ sp q joined volume opened other held.
    let i = c.open.inside in
    let old = c.args.device.now in
    let p : OpenView = open_of i.hold i.places.items i.bytes.items i.done i.fault in
    let same : open_of i.hold c.as_slice-places.result.now c.as_slice-bytes.result.now i.done i.fault ≡ p = λ k. open_of i.hold (c.as_slice-places.ensures.value k) (c.as_slice-bytes.ensures.value k) i.done i.fault in
    let bare : record c.args.open.now { loaded = [] } ≡ p = λ k. (let v = sym c.open.view_is k in open_of v.hold v.places v.bytes v.done v.fault) in
    let here = subst (λ (v : OpenView). IsOpen v sp.view old.books (g.D.Disk.state old.disk)) (bare ∙ sym same) (open_unloaded sp.view old.books (g.D.Disk.state old.disk) c.args.open.now opened) in
    c.write_next-made.ensures.others sp i.hold i.fault q joined refl c.if-open.true here (λ one. other (one ∙ ap (λ (v : OpenView). v.hold.session) c.open.view_is)) held

pub returns-then-open-clause-core : goal.returns-then-open-clause-core
returns-then-open-clause-core g c = λ t0 adopted sp joined volume opened core.
    let i = c.open.inside in
    let old = c.args.device.now in
    let loaded : List ℕ = take i.loaded i.block.items in
    let same : open_with i.hold c.as_slice-places.result.now c.as_slice-bytes.result.now i.done i.fault loaded ≡ open_with i.hold i.places.items i.bytes.items i.done i.fault loaded = λ k. open_with i.hold (c.as_slice-places.ensures.value k) (c.as_slice-bytes.ensures.value k) i.done i.fault loaded in
    let ready : (min (length c.as_slice-bytes.result.now - i.done) (c.args.size - (i.hold.at + i.done) % c.args.size) ≡ c.args.size) ⊎ (loaded ≡ take c.args.size c.as_mut_slice-block.result.now) =
    ready_of c.args.size (open_with i.hold i.places.items i.bytes.items i.done i.fault loaded) c.as_slice-bytes.result.now c.as_mut_slice-block.result.now i.block.items i.loaded c.if-open.true (ap (reads_next c.args.size) c.open.view_is ∙ sym c.reads_next.ensures ∙ c.if-reads_next.false) refl (omega (arith, c.open.invariant.0, c.open.invariant.2)) c.as_mut_slice-block.ensures.value c.as_slice-bytes.ensures.value in
    let here = subst (λ (v : OpenView). IsOpen v sp.view old.books (g.D.Disk.state old.disk)) (sym c.open.view_is ∙ sym same) opened in
    c.write_next-made.ensures.core t0 adopted sp i.hold i.fault loaded joined volume refl c.if-open.true here ready core

pub returns-clause-even : goal.returns-clause-even
returns-clause-even g c =
    let i = c.open.inside in
    let z : ℕ = c.args.device.now.books.sup.block_size in
    let part : List ℕ = c.read_next-made.new.into in
    let bytes : List ℕ = take i.bytes.len (part ++ drop (length part) i.bytes.items) in
    let back : take i.bytes.len (part ++ drop (length part) i.bytes.items) ≡ part = take_at part (drop (length part) i.bytes.items) i.bytes.len (c.read_next-made.ensures.length ∙ c.as_mut_slice-into.ensures.len) in
    let p : OpenView = open_of i.hold i.places.items bytes i.done i.fault in
    let long : length i.bytes.items ≡ length bytes = sym (ap length back ∙ c.read_next-made.ensures.length ∙ ap length c.as_mut_slice-into.ensures.value) in
    let some : 0 < c.args.size = subst (λ (n : ℕ). 0 < n) (sym c.requires.size) (some_bytes c.args.device.now.books.sup c.steady.ensures.steady.valid) in
    let more : i.done < length bytes = subst (λ (n : ℕ). i.done < n) long (subst (λ (v : OpenView). v.done < length v.bytes) (sym c.open.view_is) c.requires.more) in
    let was : IsEven c.args.size (open_of i.hold i.places.items i.bytes.items i.done i.fault) = subst (IsEven c.args.size) (sym c.open.view_is) c.requires.even in
    let even : IsEven c.args.size p = subst (λ (n : ℕ). (i.done ≡ 0) ⊎ ((i.hold.at + i.done) % c.args.size ≡ 0) ⊎ (i.done ≡ n)) long was in
    let count : IfOk c.read_next-made.result (λ n. n ≡ min (length bytes - i.done) (c.args.size - (i.hold.at + i.done) % c.args.size)) =
    subst (λ (n : ℕ). IfOk c.read_next-made.result (λ k. k ≡ min (length bytes - i.done) (n - (i.hold.at + i.done) % n))) (sym c.requires.size)
    (subst (λ (n : ℕ). IfOk c.read_next-made.result (λ k. k ≡ min (n - i.done) (z - (i.hold.at + i.done) % z))) (ap length c.as_mut_slice-into.ensures.value ∙ long) c.read_next-made.ensures.count) in
    noted_even p c.note_made-2.new.open c.args.size c.read_next-made.result c.note_made-2.result c.note_made-2.ensures.ok c.note_made-2.ensures.failed some more even count

pub returns-clause-open : goal.returns-clause-open
returns-clause-open g c = λ sp joined volume opened.
    let i = c.open.inside in
    let old = c.args.device.now in
    let new = c.read_next-made.new.device in
    let part : List ℕ = c.read_next-made.new.into in
    let bytes : List ℕ = take i.bytes.len (part ++ drop (length part) i.bytes.items) in
    let back : take i.bytes.len (part ++ drop (length part) i.bytes.items) ≡ part = take_at part (drop (length part) i.bytes.items) i.bytes.len (c.read_next-made.ensures.length ∙ c.as_mut_slice-into.ensures.len) in
    let p : OpenView = open_of i.hold i.places.items bytes i.done i.fault in
    let first : open_of i.hold c.as_slice-blocks.result.now c.as_mut_slice-into.result.now i.done i.fault ≡ open_of i.hold i.places.items i.bytes.items i.done i.fault = λ k. open_of i.hold (c.as_slice-blocks.ensures.value k) (c.as_mut_slice-into.ensures.value k) i.done i.fault in
    let same : open_of i.hold c.as_slice-blocks.result.now part i.done i.fault ≡ p = λ k. open_of i.hold (c.as_slice-blocks.ensures.value k) (sym back k) i.done i.fault in
    let bare : record c.args.open.now { loaded = [] } ≡ open_of i.hold i.places.items i.bytes.items i.done i.fault = λ k. (let v = sym c.open.view_is k in open_of v.hold v.places v.bytes v.done v.fault) in
    let here = subst (λ (v : OpenView). IsOpen v sp.view old.books (g.D.Disk.state old.disk)) (bare ∙ sym first) (open_unloaded sp.view old.books (g.D.Disk.state old.disk) c.args.open.now opened) in
    let all = c.read_next-made.ensures.open sp i.hold i.fault joined refl here in (
      joined_rested sp old.books new.books (g.D.Disk.state old.disk) (g.D.Disk.state new.disk) c.read_next-made.ensures.rests c.read_next-made.ensures.state joined,
      noted_open p c.note_made-2.new.open c.args.size c.read_next-made.result c.note_made-2.result c.note_made-2.ensures.ok c.note_made-2.ensures.failed sp.view new.books (g.D.Disk.state new.disk)
          (subst (λ (v : OpenView). IsOpen v sp.view new.books (g.D.Disk.state new.disk)) same all.0)
          (subst (λ (v : OpenView). IfOk c.read_next-made.result (λ n. IsOpen (record v { done = v.done + n; loaded = [] }) sp.view new.books (g.D.Disk.state new.disk))) same all.1),
    )

pub returns-clause-others : goal.returns-clause-others
returns-clause-others g c = λ sp q joined volume opened other held.
    let old = c.args.device.now in
    let new = c.read_next-made.new.device in
    open_rested sp old.books new.books (g.D.Disk.state old.disk) (g.D.Disk.state new.disk) q c.read_next-made.ensures.rests c.read_next-made.ensures.state held

pub returns-clause-core : goal.returns-clause-core
returns-clause-core g c = λ t0 adopted sp joined volume opened core. c.read_next-made.ensures.core t0 adopted sp core

pub reads_next-requires-clause-small : goal.reads_next-requires-clause-small
reads_next-requires-clause-small g c = omega (arith, (sizes c.args.device.now.books.sup c.steady.ensures.steady.valid).2, c.requires.size)

pub returns-then-reads_next-clause-open : goal.returns-then-reads_next-clause-open
returns-then-reads_next-clause-open g c = λ sp joined volume opened.
    let old = c.args.device.now in
    let new = c.load_next.new.device in (
      joined_rested sp old.books new.books (g.D.Disk.state old.disk) (g.D.Disk.state new.disk) c.load_next.ensures.rests c.load_next.ensures.state joined,
      c.load_next.ensures.open sp joined opened,
    )

pub returns-then-reads_next-clause-others : goal.returns-then-reads_next-clause-others
returns-then-reads_next-clause-others g c = λ sp q joined volume opened other held.
    let old = c.args.device.now in
    let new = c.load_next.new.device in
    open_rested sp old.books new.books (g.D.Disk.state old.disk) (g.D.Disk.state new.disk) q c.load_next.ensures.rests c.load_next.ensures.state held

pub returns-then-reads_next-clause-core : goal.returns-then-reads_next-clause-core
returns-then-reads_next-clause-core g c = λ t0 adopted sp joined volume opened core. c.load_next.ensures.core t0 adopted sp core
