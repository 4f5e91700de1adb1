use Rattle.std.proofs.Common.{◌≡◌, ◌∙◌, ℕ, List, pos, sym, ap, subst}
use Rattle.bfs_bytes.specs.Fields.{unsigned_at}
use Rattle.bfs_inode.specs.Inode.{stream_at}
use Rattle.bfs_super.specs.Geometry.{geometry_of}
use Rattle.bfs_stream.specs.Told.{contents}
use Rattle.bfs_maps.specs.Refused.{IsUndone}
use Rattle.bfs_maps.proofs.Sized.{size_here}
use Rattle.bfs_make.specs.Sites.{stream_in}
use Rattle.bfs_attr.proofs.Tops.{room_of, content_is, attribute_is}
use Rattle.bfs_attr.proofs.reading.attribute_in_inode.Goals as goal

pub returns-in-Ok-stream_bytes-clause-found : goal.returns-in-Ok-stream_bytes-clause-found
returns-in-Ok-stream_bytes-clause-found g c m told can =
    let o = stream_in c.args.site c.args.id in
    let id = c.args.id in
    let block : c.in-Ok.block.items ≡ contents m id = c.in-Ok.ensures.read m told (size_here o can.0 m can.1) in
    let size : (stream_at (contents m id)).size ≡ pos c.in-Some.size = subst (λ (b : List ℕ). (stream_at b).size ≡ pos c.in-Some.size) (c.deref.ensures.value ∙ block) c.in-Some.ensures.some in
    let kind : c.type_code-kind.result ≡ unsigned_at 4 (contents m id) 60 = c.type_code-kind.ensures ∙ ap (λ (b : List ℕ). unsigned_at 4 b 60) (c.over.ensures ∙ c.deref-2.ensures.value ∙ block) in
    let bytes = c.in-Ok-stream_bytes.ensures.found m (c.in-Ok.ensures.told ∙ told) can.1.stands can.1.told (room_of o m can.0 c.in-Some.size can.1 size) in
    attribute_is (geometry_of c.args.site.sup) m id c.type_code-kind.result c.new.result kind
    (content_is (geometry_of c.args.site.sup) m id c.in-Some.size c.new.result size (c.new.ensures ∙ bytes))

pub returns-clause-found : goal.returns-clause-found
returns-clause-found g c m told can =
    let o = stream_in c.args.site c.args.id in
    let id = c.args.id in
    let block : c.in-Ok.block.items ≡ contents m id = c.in-Ok.ensures.read m told (size_here o can.0 m can.1) in
    let size : (stream_at (contents m id)).size ≡ pos c.in-Some.size = subst (λ (b : List ℕ). (stream_at b).size ≡ pos c.in-Some.size) (c.deref.ensures.value ∙ block) c.in-Some.ensures.some in
    subst IsUndone (sym c.blocked-in-Err-stream_bytes.ensures)
    (c.in-Err-stream_bytes.ensures.found m (c.in-Ok.ensures.told ∙ told) can.1.stands can.1.told (room_of o m can.0 c.in-Some.size can.1 size))
