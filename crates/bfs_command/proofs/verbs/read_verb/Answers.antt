use Rattle.std.proofs.Common.{arith, codes, ap, sym}
use Rattle.std.proofs.lemmas.Slice.Eq.{text_from_reads}
use Rattle.bfs_command.specs.Grammar.{verb_of}
use Rattle.bfs_command.proofs.verbs.read_verb.Goals as goal

pub returns-in-mkdir : goal.returns-in-mkdir
returns-in-mkdir c = ap verb_of (sym (text_from_reads c.args.word.now (codes "mkdir") (omega arith) (omega arith, (omega arith, (omega arith, (omega arith, (omega arith, tt)))))))

pub returns-in-attrs : goal.returns-in-attrs
returns-in-attrs c = ap verb_of (sym (text_from_reads c.args.word.now (codes "attrs") (omega arith) (omega arith, (omega arith, (omega arith, (omega arith, (omega arith, tt)))))))

pub returns-in-write : goal.returns-in-write
returns-in-write c = ap verb_of (sym (text_from_reads c.args.word.now (codes "write") (omega arith) (omega arith, (omega arith, (omega arith, (omega arith, (omega arith, tt)))))))

pub returns-in-rmattr : goal.returns-in-rmattr
returns-in-rmattr c = ap verb_of (sym (text_from_reads c.args.word.now (codes "rmattr") (omega arith) (omega arith, (omega arith, (omega arith, (omega arith, (omega arith, (omega arith, tt))))))))

pub returns-in-getattr : goal.returns-in-getattr
returns-in-getattr c = ap verb_of (sym (text_from_reads c.args.word.now (codes "getattr") (omega arith) (omega arith, (omega arith, (omega arith, (omega arith, (omega arith, (omega arith, (omega arith, tt)))))))))

pub returns-in-mkindex : goal.returns-in-mkindex
returns-in-mkindex c = ap verb_of (sym (text_from_reads c.args.word.now (codes "mkindex") (omega arith) (omega arith, (omega arith, (omega arith, (omega arith, (omega arith, (omega arith, (omega arith, tt)))))))))

pub returns-in-rmindex : goal.returns-in-rmindex
returns-in-rmindex c = ap verb_of (sym (text_from_reads c.args.word.now (codes "rmindex") (omega arith) (omega arith, (omega arith, (omega arith, (omega arith, (omega arith, (omega arith, (omega arith, tt)))))))))

pub returns-in-indices : goal.returns-in-indices
returns-in-indices c = ap verb_of (sym (text_from_reads c.args.word.now (codes "indices") (omega arith) (omega arith, (omega arith, (omega arith, (omega arith, (omega arith, (omega arith, (omega arith, tt)))))))))

pub returns-in-readlink : goal.returns-in-readlink
returns-in-readlink c = ap verb_of (sym (text_from_reads c.args.word.now (codes "readlink") (omega arith) (omega arith, (omega arith, (omega arith, (omega arith, (omega arith, (omega arith, (omega arith, (omega arith, tt))))))))))
