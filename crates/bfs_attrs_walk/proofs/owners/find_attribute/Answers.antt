use Rattle.std.proofs.Common.{◌∙◌, sym}
use Rattle.bfs_stream.specs.Told.{contents}
use Rattle.bfs_sound.specs.Whole.{volume_of}
use Rattle.bfs_attrs_walk.proofs.Stored.{none_without, directory_stream}
use Rattle.bfs_attrs_walk.proofs.owners.find_attribute.Goals as goal

pub returns-in-None-clause-found : goal.returns-in-None-clause-found
returns-in-None-clause-found g c m told reached =
    let bytes = sym (c.deref.ensures.value ∙ c.in-Ok.ensures.read m told) in
    none_without (volume_of c.args.sup.now (contents m)) c.args.id c.args.block (c.in-Ok-directory_of.ensures.directory (contents m) bytes ∙ c.in-None.is)

pub find_in_directory-requires-clause-all : goal.find_in_directory-requires-clause-all
find_in_directory-requires-clause-all g c m told = c.requires.all m (sym c.in-Ok.ensures.told ∙ told)

pub find_in_directory-requires-clause-stream : goal.find_in_directory-requires-clause-stream
find_in_directory-requires-clause-stream g c m on =
    let told = sym c.in-Ok.ensures.told ∙ on in
    let bytes = sym (c.deref.ensures.value ∙ c.in-Ok.ensures.read m told) in
    directory_stream (volume_of c.args.sup.now (contents m)) c.args.id c.in-Some.directory (c.in-Ok-directory_of.ensures.directory (contents m) bytes ∙ c.in-Some.is) (c.requires.have m told)

pub returns-clause-found : goal.returns-clause-found
returns-clause-found g c m told reached =
    let bytes = sym (c.deref.ensures.value ∙ c.in-Ok.ensures.read m told) in
    c.find_in_directory.ensures.found m c.args.id (c.in-Ok.ensures.told ∙ told) reached (c.in-Ok-directory_of.ensures.directory (contents m) bytes ∙ c.in-Some.is)

pub returns-clause-wrong : goal.returns-clause-wrong
returns-clause-wrong g c m told reached =
    let bytes = sym (c.deref.ensures.value ∙ c.in-Ok.ensures.read m told) in
    c.find_in_directory.ensures.wrong m c.args.id (c.in-Ok.ensures.told ∙ told) reached (c.in-Ok-directory_of.ensures.directory (contents m) bytes ∙ c.in-Some.is)
