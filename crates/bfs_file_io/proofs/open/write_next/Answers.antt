use Rattle.std.proofs.Common.{◌≡◌, ◌+◌, ◌-◌, ◌/◌, ◌%◌, ◌∙◌, ℕ, length, min, take, None, Result, OnOk, sym, ap, subst}
use Rattle.std.specs.Prelude.{slice_index}
use Rattle.bfs_device.specs.declared.journal.DeviceFault.{DeviceFault}
use Rattle.bfs_device.specs.Data.{newest_in}
use Rattle.bfs_core.proofs.Images.{some_bytes}
use Rattle.std.proofs.lemmas.List.{length-take-le}
use Rattle.bfs_commit.specs.Open.{IsOpen, open_of, open_with}
use Rattle.bfs_commit.proofs.Asked.{size_is}
use Rattle.bfs_file_io.proofs.Making.{begin_is, begun_even, core_next, index_low, next_at, next_of, open_next, open_other, open_unloaded, read_ready}
use Rattle.bfs_file_io.proofs.open.write_next.Goals as goal

pub returns-in-Ok-clause-count : goal.returns-in-Ok-clause-count
returns-in-Ok-clause-count g c =
    let next = next_of c.args.device.now.books.sup.block_size c.args.at (length c.args.bytes.now) c.args.done c.begin_in.result c.args.size c.count_next-count.result c.begin_in.ensures.value c.requires.size (some_bytes c.args.device.now.books.sup c.steady.ensures.steady.valid) c.requires.more c.count_next-count.ensures in
    next.count_is ∙ ap (λ (k : ℕ). min (length c.args.bytes.now - c.args.done) (c.args.device.now.books.sup.block_size - k))
    (sym (begin_is c.args.device.now.books.sup.block_size c.args.at (length c.args.bytes.now) c.args.done ((c.begin_in.result + c.args.done) / c.args.size) ((c.begin_in.result + c.args.done) % c.args.size) c.count_next-count.result next))

pub write_block-requires-clause-data : goal.write_block-requires-clause-data
write_block-requires-clause-data g c =
    let next = next_of c.args.device.now.books.sup.block_size c.args.at (length c.args.bytes.now) c.args.done c.begin_in.result c.args.size c.count_next-count.result c.begin_in.ensures.value c.requires.size (some_bytes c.args.device.now.books.sup c.steady.ensures.steady.valid) c.requires.more c.count_next-count.ensures in
    let index : ℕ = (c.begin_in.result + c.args.done) / c.args.size in
    let low = index_low c.args.device.now.books.sup.block_size c.args.at (length c.args.bytes.now) c.args.done index ((c.begin_in.result + c.args.done) % c.args.size) c.count_next-count.result next c.args.places.now c.requires.many in
    c.requires.blocks index 0 low

pub returns-in-Ok-clause-open : goal.returns-in-Ok-clause-open
returns-in-Ok-clause-open g c = λ sp h fault loaded joined volume at_is writes held ready.
    let old = c.args.device.now in
    let new = c.write_block.new.device in
    let e = c.in-Ok.ensures in
    let bytes = c.args.bytes.now in
    let places = c.args.places.now in
    let done : ℕ = c.args.done in
    let n : ℕ = c.count_next-count.result in
    let index : ℕ = (c.begin_in.result + c.args.done) / c.args.size in
    let from : ℕ = (c.begin_in.result + c.args.done) % c.args.size in
    let first = next_of old.books.sup.block_size c.args.at (length bytes) done c.begin_in.result c.args.size n c.begin_in.ensures.value c.requires.size (some_bytes old.books.sup c.steady.ensures.steady.valid) c.requires.more c.count_next-count.ensures in
    let size : old.books.sup.block_size ≡ sp.view.sup.block_size = size_is sp old.books joined.fitted in
    let next = next_at old.books.sup.block_size sp.view.sup.block_size c.args.at h.at (length bytes) done index from n size at_is first in
    let opened = open_unloaded sp.view old.books (g.D.Disk.state old.disk) (open_with h places bytes done fault loaded) held in
    let low = index_low old.books.sup.block_size c.args.at (length bytes) done index from n first places c.requires.many in
    let begun = begun_even old.books.sup.block_size c.args.at (length bytes) done index from n first c.requires.even in
    let apart : newest_in old.books.groups (slice_index places index) ≡ None = subst (λ (i : ℕ). newest_in old.books.groups (slice_index places i) ≡ None) (sym first.index_is) c.requires.apart in
    let read = read_ready sp old.books (g.D.Disk.state old.disk) h places bytes done fault loaded (take c.args.size c.args.block.now) index from n c.args.at c.args.size c.requires.size size at_is first held c.steady.ensures.steady (c.requires.blocks index 0 low) apart (length-take-le c.args.size c.args.block.now c.requires.room) ready in
    let all = open_next sp old.books new.books (g.D.Disk.state old.disk) (g.D.Disk.state new.disk) (g.D.Disk.clock old.disk) (g.D.Disk.clock new.disk) (g.D.Disk.since old.disk) (g.D.Disk.since new.disk) h places bytes done n index from fault c.write_block.result
    joined volume writes opened next size c.requires.going c.steady.ensures.steady e.rest (g.met.D.Disk.only_now old.disk) c.durable-durable.ensures.recovers e.others
    (λ t0 adopted core behind is_held unknown. c.write_block.ensures.written t0 adopted sp.view h.id (h.at + done) core behind is_held unknown read) begun (c.requires.blocks index 0 low) apart in
    (all.0, all.1, subst (λ (r : Result Unit DeviceFault). OnOk r (IsOpen (open_of h places bytes (done + n) fault) sp.view new.books (g.D.Disk.state new.disk))) c.in-Ok.is all.2)

pub returns-in-Ok-clause-others : goal.returns-in-Ok-clause-others
returns-in-Ok-clause-others g c = λ sp h fault q joined at_is writes opened other held.
    let old = c.args.device.now in
    let new = c.write_block.new.device in
    let e = c.in-Ok.ensures in
    let bytes = c.args.bytes.now in
    let places = c.args.places.now in
    let done : ℕ = c.args.done in
    let n : ℕ = c.count_next-count.result in
    let index : ℕ = (c.begin_in.result + c.args.done) / c.args.size in
    let from : ℕ = (c.begin_in.result + c.args.done) % c.args.size in
    let first = next_of old.books.sup.block_size c.args.at (length bytes) done c.begin_in.result c.args.size n c.begin_in.ensures.value c.requires.size (some_bytes old.books.sup c.steady.ensures.steady.valid) c.requires.more c.count_next-count.ensures in
    let size : old.books.sup.block_size ≡ sp.view.sup.block_size = size_is sp old.books joined.fitted in
    let next = next_at old.books.sup.block_size sp.view.sup.block_size c.args.at h.at (length bytes) done index from n size at_is first in
    let low = index_low old.books.sup.block_size c.args.at (length bytes) done index from n first places c.requires.many in
    open_other sp old.books new.books (g.D.Disk.state old.disk) (g.D.Disk.state new.disk) joined (open_of h places bytes done fault) opened next.some index low e.rest c.steady.ensures.steady e.others writes q other held

pub returns-in-Ok-clause-core : goal.returns-in-Ok-clause-core
returns-in-Ok-clause-core g c = λ t0 adopted sp h fault loaded joined volume at_is writes held ready core.
    let old = c.args.device.now in
    let new = c.write_block.new.device in
    let e = c.in-Ok.ensures in
    let bytes = c.args.bytes.now in
    let places = c.args.places.now in
    let done : ℕ = c.args.done in
    let n : ℕ = c.count_next-count.result in
    let index : ℕ = (c.begin_in.result + c.args.done) / c.args.size in
    let from : ℕ = (c.begin_in.result + c.args.done) % c.args.size in
    let first = next_of old.books.sup.block_size c.args.at (length bytes) done c.begin_in.result c.args.size n c.begin_in.ensures.value c.requires.size (some_bytes old.books.sup c.steady.ensures.steady.valid) c.requires.more c.count_next-count.ensures in
    let size : old.books.sup.block_size ≡ sp.view.sup.block_size = size_is sp old.books joined.fitted in
    let next = next_at old.books.sup.block_size sp.view.sup.block_size c.args.at h.at (length bytes) done index from n size at_is first in
    let opened = open_unloaded sp.view old.books (g.D.Disk.state old.disk) (open_with h places bytes done fault loaded) held in
    let low = index_low old.books.sup.block_size c.args.at (length bytes) done index from n first places c.requires.many in
    let apart : newest_in old.books.groups (slice_index places index) ≡ None = subst (λ (i : ℕ). newest_in old.books.groups (slice_index places i) ≡ None) (sym first.index_is) c.requires.apart in
    let read = read_ready sp old.books (g.D.Disk.state old.disk) h places bytes done fault loaded (take c.args.size c.args.block.now) index from n c.args.at c.args.size c.requires.size size at_is first held c.steady.ensures.steady (c.requires.blocks index 0 low) apart (length-take-le c.args.size c.args.block.now c.requires.room) ready in
    core_next sp old.books new.books (g.D.Disk.state old.disk) (g.D.Disk.state new.disk) (g.D.Disk.clock old.disk) (g.D.Disk.clock new.disk) (g.D.Disk.since old.disk) (g.D.Disk.since new.disk) h places bytes done n index from fault c.write_block.result
    joined volume writes opened next size c.requires.going c.steady.ensures.steady e.rest (g.met.D.Disk.only_now old.disk) c.durable-durable.ensures.recovers e.others
    (λ t0 adopted core behind is_held unknown. c.write_block.ensures.written t0 adopted sp.view h.id (h.at + done) core behind is_held unknown read) t0 adopted core

pub returns-in-Err-clause-open : goal.returns-in-Err-clause-open
returns-in-Err-clause-open g c = λ sp h fault loaded joined volume at_is writes held ready.
    let old = c.args.device.now in
    let new = c.write_block.new.device in
    let e = c.in-Err.ensures in
    let bytes = c.args.bytes.now in
    let places = c.args.places.now in
    let done : ℕ = c.args.done in
    let n : ℕ = c.count_next-count.result in
    let index : ℕ = (c.begin_in.result + c.args.done) / c.args.size in
    let from : ℕ = (c.begin_in.result + c.args.done) % c.args.size in
    let first = next_of old.books.sup.block_size c.args.at (length bytes) done c.begin_in.result c.args.size n c.begin_in.ensures.value c.requires.size (some_bytes old.books.sup c.steady.ensures.steady.valid) c.requires.more c.count_next-count.ensures in
    let size : old.books.sup.block_size ≡ sp.view.sup.block_size = size_is sp old.books joined.fitted in
    let next = next_at old.books.sup.block_size sp.view.sup.block_size c.args.at h.at (length bytes) done index from n size at_is first in
    let opened = open_unloaded sp.view old.books (g.D.Disk.state old.disk) (open_with h places bytes done fault loaded) held in
    let low = index_low old.books.sup.block_size c.args.at (length bytes) done index from n first places c.requires.many in
    let begun = begun_even old.books.sup.block_size c.args.at (length bytes) done index from n first c.requires.even in
    let apart : newest_in old.books.groups (slice_index places index) ≡ None = subst (λ (i : ℕ). newest_in old.books.groups (slice_index places i) ≡ None) (sym first.index_is) c.requires.apart in
    let read = read_ready sp old.books (g.D.Disk.state old.disk) h places bytes done fault loaded (take c.args.size c.args.block.now) index from n c.args.at c.args.size c.requires.size size at_is first held c.steady.ensures.steady (c.requires.blocks index 0 low) apart (length-take-le c.args.size c.args.block.now c.requires.room) ready in
    let all = open_next sp old.books new.books (g.D.Disk.state old.disk) (g.D.Disk.state new.disk) (g.D.Disk.clock old.disk) (g.D.Disk.clock new.disk) (g.D.Disk.since old.disk) (g.D.Disk.since new.disk) h places bytes done n index from fault c.write_block.result
    joined volume writes opened next size c.requires.going c.steady.ensures.steady e.rest (g.met.D.Disk.only_now old.disk) c.durable-durable.ensures.recovers e.others
    (λ t0 adopted core behind is_held unknown. c.write_block.ensures.written t0 adopted sp.view h.id (h.at + done) core behind is_held unknown read) begun (c.requires.blocks index 0 low) apart in
    (all.0, all.1, tt)

pub returns-in-Err-clause-others : goal.returns-in-Err-clause-others
returns-in-Err-clause-others g c = λ sp h fault q joined at_is writes opened other held.
    let old = c.args.device.now in
    let new = c.write_block.new.device in
    let e = c.in-Err.ensures in
    let bytes = c.args.bytes.now in
    let places = c.args.places.now in
    let done : ℕ = c.args.done in
    let n : ℕ = c.count_next-count.result in
    let index : ℕ = (c.begin_in.result + c.args.done) / c.args.size in
    let from : ℕ = (c.begin_in.result + c.args.done) % c.args.size in
    let first = next_of old.books.sup.block_size c.args.at (length bytes) done c.begin_in.result c.args.size n c.begin_in.ensures.value c.requires.size (some_bytes old.books.sup c.steady.ensures.steady.valid) c.requires.more c.count_next-count.ensures in
    let size : old.books.sup.block_size ≡ sp.view.sup.block_size = size_is sp old.books joined.fitted in
    let next = next_at old.books.sup.block_size sp.view.sup.block_size c.args.at h.at (length bytes) done index from n size at_is first in
    let low = index_low old.books.sup.block_size c.args.at (length bytes) done index from n first places c.requires.many in
    open_other sp old.books new.books (g.D.Disk.state old.disk) (g.D.Disk.state new.disk) joined (open_of h places bytes done fault) opened next.some index low e.rest c.steady.ensures.steady e.others writes q other held

pub returns-in-Err-clause-core : goal.returns-in-Err-clause-core
returns-in-Err-clause-core g c = λ t0 adopted sp h fault loaded joined volume at_is writes held ready core.
    let old = c.args.device.now in
    let new = c.write_block.new.device in
    let e = c.in-Err.ensures in
    let bytes = c.args.bytes.now in
    let places = c.args.places.now in
    let done : ℕ = c.args.done in
    let n : ℕ = c.count_next-count.result in
    let index : ℕ = (c.begin_in.result + c.args.done) / c.args.size in
    let from : ℕ = (c.begin_in.result + c.args.done) % c.args.size in
    let first = next_of old.books.sup.block_size c.args.at (length bytes) done c.begin_in.result c.args.size n c.begin_in.ensures.value c.requires.size (some_bytes old.books.sup c.steady.ensures.steady.valid) c.requires.more c.count_next-count.ensures in
    let size : old.books.sup.block_size ≡ sp.view.sup.block_size = size_is sp old.books joined.fitted in
    let next = next_at old.books.sup.block_size sp.view.sup.block_size c.args.at h.at (length bytes) done index from n size at_is first in
    let opened = open_unloaded sp.view old.books (g.D.Disk.state old.disk) (open_with h places bytes done fault loaded) held in
    let low = index_low old.books.sup.block_size c.args.at (length bytes) done index from n first places c.requires.many in
    let apart : newest_in old.books.groups (slice_index places index) ≡ None = subst (λ (i : ℕ). newest_in old.books.groups (slice_index places i) ≡ None) (sym first.index_is) c.requires.apart in
    let read = read_ready sp old.books (g.D.Disk.state old.disk) h places bytes done fault loaded (take c.args.size c.args.block.now) index from n c.args.at c.args.size c.requires.size size at_is first held c.steady.ensures.steady (c.requires.blocks index 0 low) apart (length-take-le c.args.size c.args.block.now c.requires.room) ready in
    core_next sp old.books new.books (g.D.Disk.state old.disk) (g.D.Disk.state new.disk) (g.D.Disk.clock old.disk) (g.D.Disk.clock new.disk) (g.D.Disk.since old.disk) (g.D.Disk.since new.disk) h places bytes done n index from fault c.write_block.result
    joined volume writes opened next size c.requires.going c.steady.ensures.steady e.rest (g.met.D.Disk.only_now old.disk) c.durable-durable.ensures.recovers e.others
    (λ t0 adopted core behind is_held unknown. c.write_block.ensures.written t0 adopted sp.view h.id (h.at + done) core behind is_held unknown read) t0 adopted core

pub write_block-requires-clause-buffer : goal.write_block-requires-clause-buffer
write_block-requires-clause-buffer g c = length-take-le c.args.size c.args.block.now c.requires.room ∙ c.requires.size
