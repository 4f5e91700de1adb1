use Rattle.std.proofs.Common.{rules}
use Rattle.bfs_model.proofs.model.Model.answer.Goals as goal

pub returns-in_ok-make-in-Make-clause-ok : goal.returns-in_ok-make-in-Make-clause-ok
returns-in_ok-make-in-Make-clause-ok c = search (rules, c.in_ok-make-in-Make.ensures.ok c.args.session)

pub returns-in_ok-remove-in-Remove-clause-ok : goal.returns-in_ok-remove-in-Remove-clause-ok
returns-in_ok-remove-in-Remove-clause-ok c = search (rules, c.in_ok-remove-in-Remove.ensures.ok c.args.session)

pub returns-in_ok-rename-in-Rename-clause-ok : goal.returns-in_ok-rename-in-Rename-clause-ok
returns-in_ok-rename-in-Rename-clause-ok c = search (rules, c.in_ok-rename-in-Rename.ensures.ok c.args.session)

pub returns-in_ok-set_size-in-SetSize-clause-ok : goal.returns-in_ok-set_size-in-SetSize-clause-ok
returns-in_ok-set_size-in-SetSize-clause-ok c = search (rules, c.in_ok-set_size-in-SetSize.ensures.ok c.args.session)

pub returns-in_ok-attr_write-in-AttrWrite-clause-ok : goal.returns-in_ok-attr_write-in-AttrWrite-clause-ok
returns-in_ok-attr_write-in-AttrWrite-clause-ok c = search (rules, c.in_ok-attr_write-in-AttrWrite.ensures.ok c.args.session)

pub returns-in_ok-index_make-in-IndexMake-clause-ok : goal.returns-in_ok-index_make-in-IndexMake-clause-ok
returns-in_ok-index_make-in-IndexMake-clause-ok c = search (rules, c.in_ok-index_make-in-IndexMake.ensures.ok c.args.session)

pub returns-in_ok-list-in-List-clause-ok : goal.returns-in_ok-list-in-List-clause-ok
returns-in_ok-list-in-List-clause-ok c = search (rules, c.in_ok-list-in-List.ensures c.args.session c.args.stamp)

pub returns-in_ok-stat-in-Stat-clause-ok : goal.returns-in_ok-stat-in-Stat-clause-ok
returns-in_ok-stat-in-Stat-clause-ok c = search (rules, c.in_ok-stat-in-Stat.ensures c.args.session c.args.stamp)

pub returns-in_ok-read_link-in-ReadLink-clause-ok : goal.returns-in_ok-read_link-in-ReadLink-clause-ok
returns-in_ok-read_link-in-ReadLink-clause-ok c = search (rules, c.in_ok-read_link-in-ReadLink.ensures c.args.session c.args.stamp)

pub returns-in_ok-attr_read-in-AttrRead-clause-ok : goal.returns-in_ok-attr_read-in-AttrRead-clause-ok
returns-in_ok-attr_read-in-AttrRead-clause-ok c = search (rules, c.in_ok-attr_read-in-AttrRead.ensures c.args.session c.args.stamp)

pub returns-in_ok-attr_list-in-AttrList-clause-ok : goal.returns-in_ok-attr_list-in-AttrList-clause-ok
returns-in_ok-attr_list-in-AttrList-clause-ok c = search (rules, c.in_ok-attr_list-in-AttrList.ensures c.args.session c.args.stamp)

pub returns-in_ok-index_list-in-IndexList-clause-ok : goal.returns-in_ok-index_list-in-IndexList-clause-ok
returns-in_ok-index_list-in-IndexList-clause-ok c = search (rules, c.in_ok-index_list-in-IndexList.ensures c.args.session c.args.stamp)

pub returns-in_ok-index_find-in-IndexFind-clause-ok : goal.returns-in_ok-index_find-in-IndexFind-clause-ok
returns-in_ok-index_find-in-IndexFind-clause-ok c = search (rules, c.in_ok-index_find-in-IndexFind.ensures c.args.session c.args.stamp)

pub returns-in-SetMode-clause-ok : goal.returns-in-SetMode-clause-ok
returns-in-SetMode-clause-ok c = search (rules, c.set_mode.ensures.ok c.args.session)

pub returns-in-AttrRemove-clause-ok : goal.returns-in-AttrRemove-clause-ok
returns-in-AttrRemove-clause-ok c = search (rules, c.attr_remove.ensures.ok c.args.session)

pub returns-in-IndexRemove-clause-ok : goal.returns-in-IndexRemove-clause-ok
returns-in-IndexRemove-clause-ok c = search (rules, c.index_remove.ensures.ok c.args.session)

pub returns-in-Lookup-clause-ok : goal.returns-in-Lookup-clause-ok
returns-in-Lookup-clause-ok c = search (rules, c.lookup.ensures c.args.session c.args.stamp)

pub returns-in-Sync-clause-ok : goal.returns-in-Sync-clause-ok
returns-in-Sync-clause-ok c = search (rules, c.sync.ensures.ok c.args.session c.args.stamp)

pub returns-in_ok-release-in-Release-clause-ok : goal.returns-in_ok-release-in-Release-clause-ok
returns-in_ok-release-in-Release-clause-ok c = search (rules, c.in_ok-release-in-Release.ensures.ok c.args.stamp c.in-Release.before c.in-Release.after)
