use Rattle.std.proofs.Common.{rules, ◌≡◌, ◌∙◌, List, [], ℕ, refl, sym, ap, subst}
use Rattle.std.specs.Prelude.{IfOk}
use Rattle.bfs_super.specs.Geometry.{geometry_of}
use Rattle.bfs_tree.specs.declared.call.Call.{Call}
use Rattle.std.specs.FinMap.{empty}
use Rattle.bfs_tree.specs.declared.call.Call.TheVariants.{Make}
use Rattle.bfs_tree.specs.declared.call.Call.TheVariants as calls
use Rattle.bfs_tree.specs.States.{State}
use Rattle.bfs_answers.specs.Looks.{IsLooked, FindsMay, MayBeDone, MaySee, RestsOn}
use Rattle.bfs_answers.proofs.calls.CallsAnswers.look.Goals as goal

pub returns-in-Make-clause-looked : goal.returns-in-Make-clause-looked
returns-in-Make-clause-looked g c m tree lists told ready =
    let is : c.args.call.now ≡ Make c.in-Make.dir c.as_slice.result.now c.in-Make.kind c.in-Make.mode = c.in-Make.is ∙ ap (λ (n : List ℕ). Make c.in-Make.dir n c.in-Make.kind c.in-Make.mode) (sym c.as_slice.ensures) in
    subst (λ (x : Call). IfOk c.look_make.result (IsLooked (geometry_of c.args.sup.now) m tree c.args.holds.now x)) (sym is) (c.look_make.ensures.looked m tree lists c.args.holds.now c.in-Make.mode told ready)

pub returns-in-Make-clause-may : goal.returns-in-Make-clause-may
returns-in-Make-clause-may g c =
    let is : c.args.call.now ≡ Make c.in-Make.dir c.as_slice.result.now c.in-Make.kind c.in-Make.mode = c.in-Make.is ∙ ap (λ (n : List ℕ). Make c.in-Make.dir n c.in-Make.kind c.in-Make.mode) (sym c.as_slice.ensures) in
    subst (λ (x : Call). IfOk c.look_make.result (FindsMay MayBeDone c.args.sup.now x)) (sym is) (c.look_make.ensures.may c.in-Make.mode)

pub returns-in-SetMode-clause-looked : goal.returns-in-SetMode-clause-looked
returns-in-SetMode-clause-looked g c m tree lists told ready =
    subst (λ (x : Call). IfOk c.look_set_mode.result (IsLooked (geometry_of c.args.sup.now) m tree c.args.holds.now x)) (sym c.in-SetMode.is) (c.look_set_mode.ensures.looked m tree lists c.args.holds.now c.in-SetMode.mode c.in-SetMode.uid c.in-SetMode.gid told ready)

pub returns-in-SetMode-clause-may : goal.returns-in-SetMode-clause-may
returns-in-SetMode-clause-may g c =
    subst (λ (x : Call). IfOk c.look_set_mode.result (FindsMay MayBeDone c.args.sup.now x)) (sym c.in-SetMode.is) (c.look_set_mode.ensures.may c.in-SetMode.mode c.in-SetMode.uid c.in-SetMode.gid)

pub returns-in-SetSize-clause-looked : goal.returns-in-SetSize-clause-looked
returns-in-SetSize-clause-looked g c m tree lists told ready =
    subst (λ (x : Call). IfOk c.look_set_size.result (IsLooked (geometry_of c.args.sup.now) m tree c.args.holds.now x)) (sym c.in-SetSize.is) (c.look_set_size.ensures.looked m tree lists told ready)

pub returns-in-SetSize-clause-may : goal.returns-in-SetSize-clause-may
returns-in-SetSize-clause-may g c =
    subst (λ (x : Call). IfOk c.look_set_size.result (FindsMay MayBeDone c.args.sup.now x)) (sym c.in-SetSize.is) c.look_set_size.ensures.may

pub returns-in-Hold-clause-looked : goal.returns-in-Hold-clause-looked
returns-in-Hold-clause-looked g c m tree lists told ready =
    subst (λ (x : Call). IfOk c.look_hold.result (IsLooked (geometry_of c.args.sup.now) m tree c.args.holds.now x)) (sym c.in-Hold.is) (c.look_hold.ensures.looked m tree lists told ready)

pub returns-in-Hold-clause-may : goal.returns-in-Hold-clause-may
returns-in-Hold-clause-may g c =
    subst (λ (x : Call). IfOk c.look_hold.result (FindsMay MayBeDone c.args.sup.now x)) (sym c.in-Hold.is) c.look_hold.ensures.may

pub returns-in-Lookup-clause-looked : goal.returns-in-Lookup-clause-looked
returns-in-Lookup-clause-looked g c m tree lists told ready =
    let is : c.args.call.now ≡ calls.Lookup c.in-Lookup.dir c.as_slice-in-Lookup.result.now = c.in-Lookup.is ∙ ap (λ (n : List ℕ). calls.Lookup c.in-Lookup.dir n) (sym c.as_slice-in-Lookup.ensures) in
    subst (λ (x : Call). IfOk c.looked.result (IsLooked (geometry_of c.args.sup.now) m tree c.args.holds.now x)) (sym is) (c.looked.ensures.looked (geometry_of c.args.sup.now) m tree c.args.holds.now (calls.Lookup c.in-Lookup.dir c.as_slice-in-Lookup.result.now) (λ s same. c.lookup.ensures.reads m tree lists s told ready same))

pub returns-in-Lookup-clause-may : goal.returns-in-Lookup-clause-may
returns-in-Lookup-clause-may g c = c.looked.ensures.may c.args.sup.now c.args.call.now

pub returns-in-Lookup-clause-unanswered : goal.returns-in-Lookup-clause-unanswered
returns-in-Lookup-clause-unanswered g c m tree lists told ready =
    let st : State = record { tree = tree; holds = []; known = empty } in
    c.looked.ensures.unanswered (calls.Lookup c.in-Lookup.dir c.as_slice-in-Lookup.result.now) st (c.lookup.ensures.reads m tree lists st told ready refl)

pub returns-in-Lookup-clause-cause : goal.returns-in-Lookup-clause-cause
returns-in-Lookup-clause-cause g c = c.looked.ensures.cause (g.E.Blocks.counts c.args.edits.now) (g.E.Blocks.counts c.lookup.new.edits) c.lookup.ensures.cause

pub returns-in-List-clause-looked : goal.returns-in-List-clause-looked
returns-in-List-clause-looked g c m tree lists told ready =
    let is : c.args.call.now ≡ calls.List c.in-List.dir = c.in-List.is in
    subst (λ (x : Call). IfOk c.looked-in-List.result (IsLooked (geometry_of c.args.sup.now) m tree c.args.holds.now x)) (sym is) (c.looked-in-List.ensures.looked (geometry_of c.args.sup.now) m tree c.args.holds.now (calls.List c.in-List.dir) (λ s same. c.list.ensures.reads m tree lists s told ready same))

pub returns-in-List-clause-may : goal.returns-in-List-clause-may
returns-in-List-clause-may g c = c.looked-in-List.ensures.may c.args.sup.now c.args.call.now

pub returns-in-List-clause-unanswered : goal.returns-in-List-clause-unanswered
returns-in-List-clause-unanswered g c m tree lists told ready =
    let st : State = record { tree = tree; holds = []; known = empty } in
    c.looked-in-List.ensures.unanswered (calls.List c.in-List.dir) st (c.list.ensures.reads m tree lists st told ready refl)

pub returns-in-List-clause-cause : goal.returns-in-List-clause-cause
returns-in-List-clause-cause g c = c.looked-in-List.ensures.cause (g.E.Blocks.counts c.args.edits.now) (g.E.Blocks.counts c.list.new.edits) c.list.ensures.cause

pub returns-in-Stat-clause-looked : goal.returns-in-Stat-clause-looked
returns-in-Stat-clause-looked g c m tree lists told ready =
    let is : c.args.call.now ≡ calls.Stat c.in-Stat.id = c.in-Stat.is in
    subst (λ (x : Call). IfOk c.looked-in-Stat.result (IsLooked (geometry_of c.args.sup.now) m tree c.args.holds.now x)) (sym is) (c.looked-in-Stat.ensures.looked (geometry_of c.args.sup.now) m tree c.args.holds.now (calls.Stat c.in-Stat.id) (λ s same. c.stat.ensures.reads m tree lists s told ready same))

pub returns-in-Stat-clause-may : goal.returns-in-Stat-clause-may
returns-in-Stat-clause-may g c = c.looked-in-Stat.ensures.may c.args.sup.now c.args.call.now

pub returns-in-Stat-clause-unanswered : goal.returns-in-Stat-clause-unanswered
returns-in-Stat-clause-unanswered g c m tree lists told ready =
    let st : State = record { tree = tree; holds = []; known = empty } in
    c.looked-in-Stat.ensures.unanswered (calls.Stat c.in-Stat.id) st (c.stat.ensures.reads m tree lists st told ready refl)

pub returns-in-Stat-clause-cause : goal.returns-in-Stat-clause-cause
returns-in-Stat-clause-cause g c = c.looked-in-Stat.ensures.cause (g.E.Blocks.counts c.args.edits.now) (g.E.Blocks.counts c.stat.new.edits) c.stat.ensures.cause

pub returns-in-ReadLink-clause-looked : goal.returns-in-ReadLink-clause-looked
returns-in-ReadLink-clause-looked g c m tree lists told ready =
    let is : c.args.call.now ≡ calls.ReadLink c.in-ReadLink.id = c.in-ReadLink.is in
    subst (λ (x : Call). IfOk c.looked-in-ReadLink.result (IsLooked (geometry_of c.args.sup.now) m tree c.args.holds.now x)) (sym is) (c.looked-in-ReadLink.ensures.looked (geometry_of c.args.sup.now) m tree c.args.holds.now (calls.ReadLink c.in-ReadLink.id) (λ s same. c.read_link.ensures.reads m tree lists s told ready same))

pub returns-in-ReadLink-clause-may : goal.returns-in-ReadLink-clause-may
returns-in-ReadLink-clause-may g c = c.looked-in-ReadLink.ensures.may c.args.sup.now c.args.call.now

pub returns-in-ReadLink-clause-unanswered : goal.returns-in-ReadLink-clause-unanswered
returns-in-ReadLink-clause-unanswered g c m tree lists told ready =
    let st : State = record { tree = tree; holds = []; known = empty } in
    c.looked-in-ReadLink.ensures.unanswered (calls.ReadLink c.in-ReadLink.id) st (c.read_link.ensures.reads m tree lists st told ready refl)

pub returns-in-ReadLink-clause-cause : goal.returns-in-ReadLink-clause-cause
returns-in-ReadLink-clause-cause g c = c.looked-in-ReadLink.ensures.cause (g.E.Blocks.counts c.args.edits.now) (g.E.Blocks.counts c.read_link.new.edits) c.read_link.ensures.cause

pub returns-in-AttrRead-clause-looked : goal.returns-in-AttrRead-clause-looked
returns-in-AttrRead-clause-looked g c m tree lists told ready =
    let is : c.args.call.now ≡ calls.AttrRead c.in-AttrRead.id c.as_slice-in-AttrRead.result.now = c.in-AttrRead.is ∙ ap (λ (n : List ℕ). calls.AttrRead c.in-AttrRead.id n) (sym c.as_slice-in-AttrRead.ensures) in
    subst (λ (x : Call). IfOk c.looked-in-AttrRead.result (IsLooked (geometry_of c.args.sup.now) m tree c.args.holds.now x)) (sym is) (c.looked-in-AttrRead.ensures.looked (geometry_of c.args.sup.now) m tree c.args.holds.now (calls.AttrRead c.in-AttrRead.id c.as_slice-in-AttrRead.result.now) (λ s same. c.attr_read.ensures.reads m tree lists s told ready same))

pub returns-in-AttrRead-clause-may : goal.returns-in-AttrRead-clause-may
returns-in-AttrRead-clause-may g c = c.looked-in-AttrRead.ensures.may c.args.sup.now c.args.call.now

pub returns-in-AttrRead-clause-unanswered : goal.returns-in-AttrRead-clause-unanswered
returns-in-AttrRead-clause-unanswered g c m tree lists told ready =
    let st : State = record { tree = tree; holds = []; known = empty } in
    c.looked-in-AttrRead.ensures.unanswered (calls.AttrRead c.in-AttrRead.id c.as_slice-in-AttrRead.result.now) st (c.attr_read.ensures.reads m tree lists st told ready refl)

pub returns-in-AttrRead-clause-cause : goal.returns-in-AttrRead-clause-cause
returns-in-AttrRead-clause-cause g c = c.looked-in-AttrRead.ensures.cause (g.E.Blocks.counts c.args.edits.now) (g.E.Blocks.counts c.attr_read.new.edits) c.attr_read.ensures.cause

pub returns-in-AttrList-clause-looked : goal.returns-in-AttrList-clause-looked
returns-in-AttrList-clause-looked g c m tree lists told ready =
    let is : c.args.call.now ≡ calls.AttrList c.in-AttrList.id = c.in-AttrList.is in
    subst (λ (x : Call). IfOk c.looked-in-AttrList.result (IsLooked (geometry_of c.args.sup.now) m tree c.args.holds.now x)) (sym is) (c.looked-in-AttrList.ensures.looked (geometry_of c.args.sup.now) m tree c.args.holds.now (calls.AttrList c.in-AttrList.id) (λ s same. c.attr_list.ensures.reads m tree lists s told ready same))

pub returns-in-AttrList-clause-may : goal.returns-in-AttrList-clause-may
returns-in-AttrList-clause-may g c = c.looked-in-AttrList.ensures.may c.args.sup.now c.args.call.now

pub returns-in-AttrList-clause-unanswered : goal.returns-in-AttrList-clause-unanswered
returns-in-AttrList-clause-unanswered g c m tree lists told ready =
    let st : State = record { tree = tree; holds = []; known = empty } in
    c.looked-in-AttrList.ensures.unanswered (calls.AttrList c.in-AttrList.id) st (c.attr_list.ensures.reads m tree lists st told ready refl)

pub returns-in-AttrList-clause-cause : goal.returns-in-AttrList-clause-cause
returns-in-AttrList-clause-cause g c = c.looked-in-AttrList.ensures.cause (g.E.Blocks.counts c.args.edits.now) (g.E.Blocks.counts c.attr_list.new.edits) c.attr_list.ensures.cause

pub returns-in-IndexList-clause-looked : goal.returns-in-IndexList-clause-looked
returns-in-IndexList-clause-looked g c m tree lists told ready =
    let is : c.args.call.now ≡ calls.IndexList = c.in-IndexList.is in
    subst (λ (x : Call). IfOk c.looked-in-IndexList.result (IsLooked (geometry_of c.args.sup.now) m tree c.args.holds.now x)) (sym is) (c.looked-in-IndexList.ensures.looked (geometry_of c.args.sup.now) m tree c.args.holds.now (calls.IndexList) (λ s same. c.index_list.ensures.reads m tree lists s told ready same))

pub returns-in-IndexList-clause-may : goal.returns-in-IndexList-clause-may
returns-in-IndexList-clause-may g c = c.looked-in-IndexList.ensures.may c.args.sup.now c.args.call.now

pub returns-in-IndexList-clause-unanswered : goal.returns-in-IndexList-clause-unanswered
returns-in-IndexList-clause-unanswered g c m tree lists told ready =
    let st : State = record { tree = tree; holds = []; known = empty } in
    c.looked-in-IndexList.ensures.unanswered (calls.IndexList) st (c.index_list.ensures.reads m tree lists st told ready refl)

pub returns-in-IndexList-clause-cause : goal.returns-in-IndexList-clause-cause
returns-in-IndexList-clause-cause g c = c.looked-in-IndexList.ensures.cause (g.E.Blocks.counts c.args.edits.now) (g.E.Blocks.counts c.index_list.new.edits) c.index_list.ensures.cause

pub index_find-requires-clause-found : goal.index_find-requires-clause-found
index_find-requires-clause-found g c m told =
    let is : c.args.call.now ≡ calls.IndexFind c.as_slice-in-IndexFind.result.now c.in-IndexFind.low c.in-IndexFind.high = c.in-IndexFind.is ∙ ap (λ (n : List ℕ). calls.IndexFind n c.in-IndexFind.low c.in-IndexFind.high) (sym c.as_slice-in-IndexFind.ensures) in
    subst (MaySee (geometry_of c.args.sup.now) c.args.bitmap.now m) is (c.requires.ready m told)

pub returns-in-IndexFind-clause-looked : goal.returns-in-IndexFind-clause-looked
returns-in-IndexFind-clause-looked g c m tree lists told ready =
    let is : c.args.call.now ≡ calls.IndexFind c.as_slice-in-IndexFind.result.now c.in-IndexFind.low c.in-IndexFind.high = c.in-IndexFind.is ∙ ap (λ (n : List ℕ). calls.IndexFind n c.in-IndexFind.low c.in-IndexFind.high) (sym c.as_slice-in-IndexFind.ensures) in
    subst (λ (x : Call). IfOk c.looked-in-IndexFind.result (IsLooked (geometry_of c.args.sup.now) m tree c.args.holds.now x)) (sym is) (c.looked-in-IndexFind.ensures.looked (geometry_of c.args.sup.now) m tree c.args.holds.now (calls.IndexFind c.as_slice-in-IndexFind.result.now c.in-IndexFind.low c.in-IndexFind.high) (λ s same. c.index_find.ensures.reads m tree lists s told ready same))

pub returns-in-IndexFind-clause-may : goal.returns-in-IndexFind-clause-may
returns-in-IndexFind-clause-may g c = c.looked-in-IndexFind.ensures.may c.args.sup.now c.args.call.now

pub returns-in-IndexFind-clause-unanswered : goal.returns-in-IndexFind-clause-unanswered
returns-in-IndexFind-clause-unanswered g c m tree lists told ready =
    let st : State = record { tree = tree; holds = []; known = empty } in
    c.looked-in-IndexFind.ensures.unanswered (calls.IndexFind c.as_slice-in-IndexFind.result.now c.in-IndexFind.low c.in-IndexFind.high) st (c.index_find.ensures.reads m tree lists st told ready refl)

pub returns-in-IndexFind-clause-cause : goal.returns-in-IndexFind-clause-cause
returns-in-IndexFind-clause-cause g c = c.looked-in-IndexFind.ensures.cause (g.E.Blocks.counts c.args.edits.now) (g.E.Blocks.counts c.index_find.new.edits) c.index_find.ensures.cause

pub returns-in-Remove-clause-looked : goal.returns-in-Remove-clause-looked
returns-in-Remove-clause-looked g c m tree lists told ready =
    let is : c.args.call.now ≡ calls.Remove c.in-Remove.dir c.as_slice-in-Remove.result.now = c.in-Remove.is ∙ ap (λ (n : List ℕ). calls.Remove c.in-Remove.dir n) (sym c.as_slice-in-Remove.ensures) in
    subst (λ (x : Call). IfOk c.look_remove.result (IsLooked (geometry_of c.args.sup.now) m tree c.args.holds.now x)) (sym is) (c.look_remove.ensures.looked m tree lists told ready)

pub returns-in-Remove-clause-may : goal.returns-in-Remove-clause-may
returns-in-Remove-clause-may g c =
    let is : c.args.call.now ≡ calls.Remove c.in-Remove.dir c.as_slice-in-Remove.result.now = c.in-Remove.is ∙ ap (λ (n : List ℕ). calls.Remove c.in-Remove.dir n) (sym c.as_slice-in-Remove.ensures) in
    subst (λ (x : Call). IfOk c.look_remove.result (FindsMay MayBeDone c.args.sup.now x)) (sym is) c.look_remove.ensures.may

pub returns-in-AttrRemove-clause-looked : goal.returns-in-AttrRemove-clause-looked
returns-in-AttrRemove-clause-looked g c m tree lists told ready =
    let is : c.args.call.now ≡ calls.AttrRemove c.in-AttrRemove.id c.as_slice-in-AttrRemove.result.now = c.in-AttrRemove.is ∙ ap (λ (n : List ℕ). calls.AttrRemove c.in-AttrRemove.id n) (sym c.as_slice-in-AttrRemove.ensures) in
    subst (λ (x : Call). IfOk c.look_remove_attr.result (IsLooked (geometry_of c.args.sup.now) m tree c.args.holds.now x)) (sym is) (c.look_remove_attr.ensures.looked m tree lists c.args.holds.now told ready)

pub returns-in-AttrRemove-clause-may : goal.returns-in-AttrRemove-clause-may
returns-in-AttrRemove-clause-may g c =
    let is : c.args.call.now ≡ calls.AttrRemove c.in-AttrRemove.id c.as_slice-in-AttrRemove.result.now = c.in-AttrRemove.is ∙ ap (λ (n : List ℕ). calls.AttrRemove c.in-AttrRemove.id n) (sym c.as_slice-in-AttrRemove.ensures) in
    subst (λ (x : Call). IfOk c.look_remove_attr.result (FindsMay MayBeDone c.args.sup.now x)) (sym is) c.look_remove_attr.ensures.may

pub returns-in-IndexRemove-clause-looked : goal.returns-in-IndexRemove-clause-looked
returns-in-IndexRemove-clause-looked g c m tree lists told ready =
    let is : c.args.call.now ≡ calls.IndexRemove c.as_slice-in-IndexRemove.result.now = c.in-IndexRemove.is ∙ ap (λ (n : List ℕ). calls.IndexRemove n) (sym c.as_slice-in-IndexRemove.ensures) in
    subst (λ (x : Call). IfOk c.look_remove_index.result (IsLooked (geometry_of c.args.sup.now) m tree c.args.holds.now x)) (sym is) (c.look_remove_index.ensures.looked m tree lists c.args.holds.now told ready)

pub returns-in-IndexRemove-clause-may : goal.returns-in-IndexRemove-clause-may
returns-in-IndexRemove-clause-may g c =
    let is : c.args.call.now ≡ calls.IndexRemove c.as_slice-in-IndexRemove.result.now = c.in-IndexRemove.is ∙ ap (λ (n : List ℕ). calls.IndexRemove n) (sym c.as_slice-in-IndexRemove.ensures) in
    subst (λ (x : Call). IfOk c.look_remove_index.result (FindsMay MayBeDone c.args.sup.now x)) (sym is) c.look_remove_index.ensures.may

pub returns-in-AttrWrite-clause-looked : goal.returns-in-AttrWrite-clause-looked
returns-in-AttrWrite-clause-looked g c m tree lists told ready =
    let is : c.args.call.now ≡ calls.AttrWrite c.in-AttrWrite.id c.as_slice-in-AttrWrite.result.now c.in-AttrWrite.kind c.as_slice-in-AttrWrite-2.result.now = search rules in
    subst (λ (x : Call). IfOk c.look_write_attr.result (IsLooked (geometry_of c.args.sup.now) m tree c.args.holds.now x)) (sym is) (c.look_write_attr.ensures.looked m tree lists c.args.holds.now c.in-AttrWrite.kind told ready)

pub returns-in-AttrWrite-clause-may : goal.returns-in-AttrWrite-clause-may
returns-in-AttrWrite-clause-may g c =
    let is : c.args.call.now ≡ calls.AttrWrite c.in-AttrWrite.id c.as_slice-in-AttrWrite.result.now c.in-AttrWrite.kind c.as_slice-in-AttrWrite-2.result.now = search rules in
    subst (λ (x : Call). IfOk c.look_write_attr.result (FindsMay MayBeDone c.args.sup.now x)) (sym is) (c.look_write_attr.ensures.may c.in-AttrWrite.kind)

pub returns-in-IndexMake-clause-looked : goal.returns-in-IndexMake-clause-looked
returns-in-IndexMake-clause-looked g c m tree lists told ready =
    let is : c.args.call.now ≡ calls.IndexMake c.as_slice-in-IndexMake.result.now c.in-IndexMake.kind = c.in-IndexMake.is ∙ ap (λ (n : List ℕ). calls.IndexMake n c.in-IndexMake.kind) (sym c.as_slice-in-IndexMake.ensures) in
    subst (λ (x : Call). IfOk c.look_make_index.result (IsLooked (geometry_of c.args.sup.now) m tree c.args.holds.now x)) (sym is) (c.look_make_index.ensures.looked m tree lists c.args.holds.now told ready)

pub returns-in-IndexMake-clause-may : goal.returns-in-IndexMake-clause-may
returns-in-IndexMake-clause-may g c =
    let is : c.args.call.now ≡ calls.IndexMake c.as_slice-in-IndexMake.result.now c.in-IndexMake.kind = c.in-IndexMake.is ∙ ap (λ (n : List ℕ). calls.IndexMake n c.in-IndexMake.kind) (sym c.as_slice-in-IndexMake.ensures) in
    subst (λ (x : Call). IfOk c.look_make_index.result (FindsMay MayBeDone c.args.sup.now x)) (sym is) c.look_make_index.ensures.may

pub returns-in-Rename-clause-looked : goal.returns-in-Rename-clause-looked
returns-in-Rename-clause-looked g c m tree lists told ready =
    let is : c.args.call.now ≡ calls.Rename c.in-Rename.dir c.as_slice-in-Rename.result.now c.in-Rename.to_dir c.as_slice-in-Rename-2.result.now = search rules in
    subst (λ (x : Call). IfOk c.look_rename.result (IsLooked (geometry_of c.args.sup.now) m tree c.args.holds.now x)) (sym is) (c.look_rename.ensures.looked m tree lists told ready)

pub returns-in-Rename-clause-may : goal.returns-in-Rename-clause-may
returns-in-Rename-clause-may g c =
    let is : c.args.call.now ≡ calls.Rename c.in-Rename.dir c.as_slice-in-Rename.result.now c.in-Rename.to_dir c.as_slice-in-Rename-2.result.now = search rules in
    subst (λ (x : Call). IfOk c.look_rename.result (FindsMay MayBeDone c.args.sup.now x)) (sym is) c.look_rename.ensures.may

pub look_make-requires-clause-ready : goal.look_make-requires-clause-ready
look_make-requires-clause-ready g c m told = subst (MaySee (geometry_of c.args.sup.now) c.args.bitmap.now m) c.in-Make.is (c.requires.ready m told)

pub returns-in-Make-clause-rests : goal.returns-in-Make-clause-rests
returns-in-Make-clause-rests g c v m w tree lists told ready rests = absurd (subst (RestsOn (geometry_of c.args.sup.now) w m tree) c.in-Make.is rests)

pub returns-in-Make-clause-rests_unanswered : goal.returns-in-Make-clause-rests_unanswered
returns-in-Make-clause-rests_unanswered g c v m w tree lists told ready rests = absurd (subst (RestsOn (geometry_of c.args.sup.now) w m tree) c.in-Make.is rests)

pub look_set_mode-requires-clause-ready : goal.look_set_mode-requires-clause-ready
look_set_mode-requires-clause-ready g c m told = subst (MaySee (geometry_of c.args.sup.now) c.args.bitmap.now m) c.in-SetMode.is (c.requires.ready m told)

pub returns-in-SetMode-clause-rests : goal.returns-in-SetMode-clause-rests
returns-in-SetMode-clause-rests g c v m w tree lists told ready rests = absurd (subst (RestsOn (geometry_of c.args.sup.now) w m tree) c.in-SetMode.is rests)

pub returns-in-SetMode-clause-rests_unanswered : goal.returns-in-SetMode-clause-rests_unanswered
returns-in-SetMode-clause-rests_unanswered g c v m w tree lists told ready rests = absurd (subst (RestsOn (geometry_of c.args.sup.now) w m tree) c.in-SetMode.is rests)

pub look_set_size-requires-clause-ready : goal.look_set_size-requires-clause-ready
look_set_size-requires-clause-ready g c m told = subst (MaySee (geometry_of c.args.sup.now) c.args.bitmap.now m) c.in-SetSize.is (c.requires.ready m told)

pub returns-in-SetSize-clause-rests : goal.returns-in-SetSize-clause-rests
returns-in-SetSize-clause-rests g c v m w tree lists told ready rests = absurd (subst (RestsOn (geometry_of c.args.sup.now) w m tree) c.in-SetSize.is rests)

pub returns-in-SetSize-clause-rests_unanswered : goal.returns-in-SetSize-clause-rests_unanswered
returns-in-SetSize-clause-rests_unanswered g c v m w tree lists told ready rests = absurd (subst (RestsOn (geometry_of c.args.sup.now) w m tree) c.in-SetSize.is rests)

pub look_remove-requires-clause-ready : goal.look_remove-requires-clause-ready
look_remove-requires-clause-ready g c m told = subst (MaySee (geometry_of c.args.sup.now) c.args.bitmap.now m) c.in-Remove.is (c.requires.ready m told)

pub returns-in-Remove-clause-rests : goal.returns-in-Remove-clause-rests
returns-in-Remove-clause-rests g c v m w tree lists told ready rests = absurd (subst (RestsOn (geometry_of c.args.sup.now) w m tree) c.in-Remove.is rests)

pub returns-in-Remove-clause-rests_unanswered : goal.returns-in-Remove-clause-rests_unanswered
returns-in-Remove-clause-rests_unanswered g c v m w tree lists told ready rests = absurd (subst (RestsOn (geometry_of c.args.sup.now) w m tree) c.in-Remove.is rests)

pub look_rename-requires-clause-ready : goal.look_rename-requires-clause-ready
look_rename-requires-clause-ready g c m told = subst (MaySee (geometry_of c.args.sup.now) c.args.bitmap.now m) c.in-Rename.is (c.requires.ready m told)

pub returns-in-Rename-clause-rests : goal.returns-in-Rename-clause-rests
returns-in-Rename-clause-rests g c v m w tree lists told ready rests = absurd (subst (RestsOn (geometry_of c.args.sup.now) w m tree) c.in-Rename.is rests)

pub returns-in-Rename-clause-rests_unanswered : goal.returns-in-Rename-clause-rests_unanswered
returns-in-Rename-clause-rests_unanswered g c v m w tree lists told ready rests = absurd (subst (RestsOn (geometry_of c.args.sup.now) w m tree) c.in-Rename.is rests)

pub look_write_attr-requires-clause-ready : goal.look_write_attr-requires-clause-ready
look_write_attr-requires-clause-ready g c m told = subst (MaySee (geometry_of c.args.sup.now) c.args.bitmap.now m) c.in-AttrWrite.is (c.requires.ready m told)

pub returns-in-AttrWrite-clause-rests : goal.returns-in-AttrWrite-clause-rests
returns-in-AttrWrite-clause-rests g c v m w tree lists told ready rests = absurd (subst (RestsOn (geometry_of c.args.sup.now) w m tree) c.in-AttrWrite.is rests)

pub returns-in-AttrWrite-clause-rests_unanswered : goal.returns-in-AttrWrite-clause-rests_unanswered
returns-in-AttrWrite-clause-rests_unanswered g c v m w tree lists told ready rests = absurd (subst (RestsOn (geometry_of c.args.sup.now) w m tree) c.in-AttrWrite.is rests)

pub look_remove_attr-requires-clause-ready : goal.look_remove_attr-requires-clause-ready
look_remove_attr-requires-clause-ready g c m told = subst (MaySee (geometry_of c.args.sup.now) c.args.bitmap.now m) c.in-AttrRemove.is (c.requires.ready m told)

pub returns-in-AttrRemove-clause-rests : goal.returns-in-AttrRemove-clause-rests
returns-in-AttrRemove-clause-rests g c v m w tree lists told ready rests = absurd (subst (RestsOn (geometry_of c.args.sup.now) w m tree) c.in-AttrRemove.is rests)

pub returns-in-AttrRemove-clause-rests_unanswered : goal.returns-in-AttrRemove-clause-rests_unanswered
returns-in-AttrRemove-clause-rests_unanswered g c v m w tree lists told ready rests = absurd (subst (RestsOn (geometry_of c.args.sup.now) w m tree) c.in-AttrRemove.is rests)

pub look_make_index-requires-clause-ready : goal.look_make_index-requires-clause-ready
look_make_index-requires-clause-ready g c m told = subst (MaySee (geometry_of c.args.sup.now) c.args.bitmap.now m) c.in-IndexMake.is (c.requires.ready m told)

pub returns-in-IndexMake-clause-rests : goal.returns-in-IndexMake-clause-rests
returns-in-IndexMake-clause-rests g c v m w tree lists told ready rests = absurd (subst (RestsOn (geometry_of c.args.sup.now) w m tree) c.in-IndexMake.is rests)

pub returns-in-IndexMake-clause-rests_unanswered : goal.returns-in-IndexMake-clause-rests_unanswered
returns-in-IndexMake-clause-rests_unanswered g c v m w tree lists told ready rests = absurd (subst (RestsOn (geometry_of c.args.sup.now) w m tree) c.in-IndexMake.is rests)

pub look_remove_index-requires-clause-ready : goal.look_remove_index-requires-clause-ready
look_remove_index-requires-clause-ready g c m told = subst (MaySee (geometry_of c.args.sup.now) c.args.bitmap.now m) c.in-IndexRemove.is (c.requires.ready m told)

pub returns-in-IndexRemove-clause-rests : goal.returns-in-IndexRemove-clause-rests
returns-in-IndexRemove-clause-rests g c v m w tree lists told ready rests = absurd (subst (RestsOn (geometry_of c.args.sup.now) w m tree) c.in-IndexRemove.is rests)

pub returns-in-IndexRemove-clause-rests_unanswered : goal.returns-in-IndexRemove-clause-rests_unanswered
returns-in-IndexRemove-clause-rests_unanswered g c v m w tree lists told ready rests = absurd (subst (RestsOn (geometry_of c.args.sup.now) w m tree) c.in-IndexRemove.is rests)

pub look_hold-requires-clause-ready : goal.look_hold-requires-clause-ready
look_hold-requires-clause-ready g c m told = subst (MaySee (geometry_of c.args.sup.now) c.args.bitmap.now m) c.in-Hold.is (c.requires.ready m told)

pub returns-in-Hold-clause-rests : goal.returns-in-Hold-clause-rests
returns-in-Hold-clause-rests g c v m w tree lists told ready rests = absurd (subst (RestsOn (geometry_of c.args.sup.now) w m tree) c.in-Hold.is rests)

pub returns-in-Hold-clause-rests_unanswered : goal.returns-in-Hold-clause-rests_unanswered
returns-in-Hold-clause-rests_unanswered g c v m w tree lists told ready rests = absurd (subst (RestsOn (geometry_of c.args.sup.now) w m tree) c.in-Hold.is rests)

pub lookup-requires-clause-ready : goal.lookup-requires-clause-ready
lookup-requires-clause-ready g c m told = subst (MaySee (geometry_of c.args.sup.now) c.args.bitmap.now m) c.in-Lookup.is (c.requires.ready m told)

pub returns-in-Lookup-clause-rests : goal.returns-in-Lookup-clause-rests
returns-in-Lookup-clause-rests g c v m w tree lists told ready rests = absurd (subst (RestsOn (geometry_of c.args.sup.now) w m tree) c.in-Lookup.is rests)

pub returns-in-Lookup-clause-rests_unanswered : goal.returns-in-Lookup-clause-rests_unanswered
returns-in-Lookup-clause-rests_unanswered g c v m w tree lists told ready rests = absurd (subst (RestsOn (geometry_of c.args.sup.now) w m tree) c.in-Lookup.is rests)

pub list-requires-clause-ready : goal.list-requires-clause-ready
list-requires-clause-ready g c m told = subst (MaySee (geometry_of c.args.sup.now) c.args.bitmap.now m) c.in-List.is (c.requires.ready m told)

pub returns-in-List-clause-rests : goal.returns-in-List-clause-rests
returns-in-List-clause-rests g c v m w tree lists told ready rests = absurd (subst (RestsOn (geometry_of c.args.sup.now) w m tree) c.in-List.is rests)

pub returns-in-List-clause-rests_unanswered : goal.returns-in-List-clause-rests_unanswered
returns-in-List-clause-rests_unanswered g c v m w tree lists told ready rests = absurd (subst (RestsOn (geometry_of c.args.sup.now) w m tree) c.in-List.is rests)

pub stat-requires-clause-ready : goal.stat-requires-clause-ready
stat-requires-clause-ready g c m told = subst (MaySee (geometry_of c.args.sup.now) c.args.bitmap.now m) c.in-Stat.is (c.requires.ready m told)

pub returns-in-Stat-clause-rests : goal.returns-in-Stat-clause-rests
returns-in-Stat-clause-rests g c v m w tree lists told ready rests = absurd (subst (RestsOn (geometry_of c.args.sup.now) w m tree) c.in-Stat.is rests)

pub returns-in-Stat-clause-rests_unanswered : goal.returns-in-Stat-clause-rests_unanswered
returns-in-Stat-clause-rests_unanswered g c v m w tree lists told ready rests = absurd (subst (RestsOn (geometry_of c.args.sup.now) w m tree) c.in-Stat.is rests)

pub read_link-requires-clause-ready : goal.read_link-requires-clause-ready
read_link-requires-clause-ready g c m told = subst (MaySee (geometry_of c.args.sup.now) c.args.bitmap.now m) c.in-ReadLink.is (c.requires.ready m told)

pub returns-in-ReadLink-clause-rests : goal.returns-in-ReadLink-clause-rests
returns-in-ReadLink-clause-rests g c v m w tree lists told ready rests = absurd (subst (RestsOn (geometry_of c.args.sup.now) w m tree) c.in-ReadLink.is rests)

pub returns-in-ReadLink-clause-rests_unanswered : goal.returns-in-ReadLink-clause-rests_unanswered
returns-in-ReadLink-clause-rests_unanswered g c v m w tree lists told ready rests = absurd (subst (RestsOn (geometry_of c.args.sup.now) w m tree) c.in-ReadLink.is rests)

pub attr_read-requires-clause-ready : goal.attr_read-requires-clause-ready
attr_read-requires-clause-ready g c m told = subst (MaySee (geometry_of c.args.sup.now) c.args.bitmap.now m) c.in-AttrRead.is (c.requires.ready m told)

pub returns-in-AttrRead-clause-rests : goal.returns-in-AttrRead-clause-rests
returns-in-AttrRead-clause-rests g c v m w tree lists told ready rests = absurd (subst (RestsOn (geometry_of c.args.sup.now) w m tree) c.in-AttrRead.is rests)

pub returns-in-AttrRead-clause-rests_unanswered : goal.returns-in-AttrRead-clause-rests_unanswered
returns-in-AttrRead-clause-rests_unanswered g c v m w tree lists told ready rests = absurd (subst (RestsOn (geometry_of c.args.sup.now) w m tree) c.in-AttrRead.is rests)

pub attr_list-requires-clause-ready : goal.attr_list-requires-clause-ready
attr_list-requires-clause-ready g c m told = subst (MaySee (geometry_of c.args.sup.now) c.args.bitmap.now m) c.in-AttrList.is (c.requires.ready m told)

pub returns-in-AttrList-clause-rests : goal.returns-in-AttrList-clause-rests
returns-in-AttrList-clause-rests g c v m w tree lists told ready rests = absurd (subst (RestsOn (geometry_of c.args.sup.now) w m tree) c.in-AttrList.is rests)

pub returns-in-AttrList-clause-rests_unanswered : goal.returns-in-AttrList-clause-rests_unanswered
returns-in-AttrList-clause-rests_unanswered g c v m w tree lists told ready rests = absurd (subst (RestsOn (geometry_of c.args.sup.now) w m tree) c.in-AttrList.is rests)

pub index_list-requires-clause-ready : goal.index_list-requires-clause-ready
index_list-requires-clause-ready g c m told = subst (MaySee (geometry_of c.args.sup.now) c.args.bitmap.now m) c.in-IndexList.is (c.requires.ready m told)

pub returns-in-IndexList-clause-rests : goal.returns-in-IndexList-clause-rests
returns-in-IndexList-clause-rests g c v m w tree lists told ready rests = absurd (subst (RestsOn (geometry_of c.args.sup.now) w m tree) c.in-IndexList.is rests)

pub returns-in-IndexList-clause-rests_unanswered : goal.returns-in-IndexList-clause-rests_unanswered
returns-in-IndexList-clause-rests_unanswered g c v m w tree lists told ready rests = absurd (subst (RestsOn (geometry_of c.args.sup.now) w m tree) c.in-IndexList.is rests)

pub returns-in-IndexFind-clause-rests : goal.returns-in-IndexFind-clause-rests
returns-in-IndexFind-clause-rests g c v m w tree lists told ready rests =
    let is : c.args.call.now ≡ calls.IndexFind c.as_slice-in-IndexFind.result.now c.in-IndexFind.low c.in-IndexFind.high = c.in-IndexFind.is ∙ ap (λ (n : List ℕ). calls.IndexFind n c.in-IndexFind.low c.in-IndexFind.high) (sym c.as_slice-in-IndexFind.ensures) in
    let says = subst (RestsOn (geometry_of c.args.sup.now) w m tree) is rests in
    subst (λ (x : Call). IfOk c.looked-in-IndexFind.result (IsLooked (geometry_of c.args.sup.now) w tree c.args.holds.now x)) (sym is) (c.looked-in-IndexFind.ensures.looked (geometry_of c.args.sup.now) w tree c.args.holds.now (calls.IndexFind c.as_slice-in-IndexFind.result.now c.in-IndexFind.low c.in-IndexFind.high) (λ s same. c.index_find.ensures.rests v m w tree lists s told ready says same))

pub returns-in-IndexFind-clause-rests_unanswered : goal.returns-in-IndexFind-clause-rests_unanswered
returns-in-IndexFind-clause-rests_unanswered g c v m w tree lists told ready rests =
    let is : c.args.call.now ≡ calls.IndexFind c.as_slice-in-IndexFind.result.now c.in-IndexFind.low c.in-IndexFind.high = c.in-IndexFind.is ∙ ap (λ (n : List ℕ). calls.IndexFind n c.in-IndexFind.low c.in-IndexFind.high) (sym c.as_slice-in-IndexFind.ensures) in
    let says = subst (RestsOn (geometry_of c.args.sup.now) w m tree) is rests in
    let st : State = record { tree = tree; holds = []; known = empty } in
    c.looked-in-IndexFind.ensures.unanswered (calls.IndexFind c.as_slice-in-IndexFind.result.now c.in-IndexFind.low c.in-IndexFind.high) st (c.index_find.ensures.rests v m w tree lists st told ready says refl)
