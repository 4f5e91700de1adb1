-- A row that is put for a stored attribute, as a step of a call.
use Rattle.std.proofs.Common.{◌≡◌, ◌<◌, ◌∙◌, ℕ, ℤ, pos, List, [], Bool, Option, Some, None, sym, ap, subst}
use Rattle.std.specs.Prelude.{Result, Ok, Err, IfErr, unwrap_or}
use Rattle.std.specs.FinMap.{find, insert}
use Rattle.bfs_base.specs.Keys.{text_cmp}
use Rattle.bfs_base.specs.declared.kind.KeyKind.TheVariants.{Text}
use Rattle.bfs_bitmap.specs.Runs.{Room}
use Rattle.bfs_node.specs.Page.{Row}
use Rattle.bfs_node.specs.declared.fault.TreeFault.{TreeFault}
use Rattle.bfs_node.specs.declared.fault.TreeFault.TheVariants.{Exists, Absent, Damaged, Pages, NoMemory}
use Rattle.bfs_pages.specs.Maps.{put, assoc}
use Rattle.bfs_pages.specs.Order.{Key}
use Rattle.bfs_smalldata.specs.Items.{Item}
use Rattle.bfs_stream.specs.Sizes.{Origin}
use Rattle.bfs_stream.specs.declared.fault.GrowFault.{GrowFault}
use Rattle.bfs_tree.specs.Trees.{Attribute}
use Rattle.bfs_values.specs.Rows.{rows_in}
use Rattle.bfs_maps.specs.Mapped.{rows_of}
use Rattle.bfs_maps.specs.Refused.{IsPutFault}
use Rattle.bfs_maps.specs.RowTrees.{AreRowsNow, HasTree}
use Rattle.bfs_sound.specs.Volumes.{Volume}
use Rattle.bfs_sound.specs.Inodes.{content, id_of}
use Rattle.bfs_sound.specs.Attributes.{attributes_in, attributes_of, attribute_at, attribute_directory}
use Rattle.bfs_attr.specs.Bearers.{Bearer, volume_at, origin, entries_at, entries_with, attributes_at}
use Rattle.bfs_attr.proofs.Tops.{value_is}
use Rattle.bfs_attr_write.specs.Adding.{CanAdd, IsStored, HasRowPut, IsRowFault}
use Rattle.bfs_attr_write.proofs.Begun.{tree_begun, bytes_begun}
use Rattle.bfs_attr_write.proofs.Joined.{row_put}
use Rattle.bfs_attr_write.proofs.Unknown.{find_behind, no_row}

put_fault_row : (o : Origin) (v : Room) (m : ℕ → Option (List ℕ)) (rows : List Row) (key : Key) (fault : TreeFault GrowFault) → ((value : ℤ) → assoc Text rows key ≡ Some value → ⊥) → IsPutFault Text o v m rows key fault → IsRowFault o v m fault
put_fault_row o v m rows key Exists none h = none h.0 h.1
put_fault_row o v m rows key Absent none h = h
put_fault_row o v m rows key (Damaged page sort) none h = h
put_fault_row o v m rows key (Pages fault) none h = h.0
put_fault_row o v m rows key NoMemory none h = h

pub row_fault : {T : Type 0} (o : Origin) (v : Room) (m : ℕ → Option (List ℕ)) (rows : List Row) (key : Key) (r : Result T (TreeFault GrowFault)) → ((value : ℤ) → assoc Text rows key ≡ Some value → ⊥) → IfErr r (IsPutFault Text o v m rows key) → IfErr r (IsRowFault o v m)
row_fault o v m rows key (Ok x) none h = tt
row_fault o v m rows key (Err fault) none h = put_fault_row o v m rows key fault none h

module _ (b : Bearer) (v mid : Room) (m map : ℕ → Option (List ℕ)) (d id : ℕ) (name : List ℕ) (attribute : Attribute) (old half : ℕ → Bool) (can : CanAdd b v m d name) (stored : IsStored b v mid m map id attribute old half) where
  abbrev volume : Volume
  volume = volume_at b.geometry m

  not_there : find text_cmp name (entries_at volume b.id) ≡ None
  not_there = value_is (entries_at volume b.id) name ∙ can.unknown

  pub directory_tree : HasTree Text (origin b.geometry d) mid map
  directory_tree = tree_begun b v mid m map can.holds id d stored.fresh can.there

  pub row_joined : id < b.geometry.blocks → (later : Room) (told : Option (ℕ → Option (List ℕ))) (new : ℕ → Bool) → AreRowsNow Text (origin b.geometry d) mid later map (put Text (rows_of Text (origin b.geometry d) map) name (pos id)) told half new
      → HasRowPut b v later m (insert (attributes_at volume b.id) name attribute) told old new
  row_joined low later told new now =
      row_put b v mid later m map now.map can.holds id d stored.fresh can.there stored.held name attribute stored.inode low can.proper not_there
      now.held now.bytes now.moved told now.is old half new stored.written now.written stored.entered now.fresh now.stays

  -- no row has the name
  behind_none : find text_cmp name (attributes_of volume (Some d)) ≡ None
  behind_none =
      subst (λ (o : Option ℕ). find text_cmp name (attributes_of volume o) ≡ None) can.there
      (find_behind name (attributes_in can.holds.stands.items) (attributes_of volume (attribute_directory volume b.id))
      (ap (λ (o : Option (List Item)). find text_cmp name (entries_with volume b.id (unwrap_or o []))) (sym can.holds.stands.area) ∙ not_there))

  pub unnamed : (value : ℤ) → assoc Text (rows_of Text (origin b.geometry d) map) name ≡ Some value → ⊥
  unnamed value e =
      no_row (λ (r : Row). attribute_at volume (id_of r)) name can.proper (rows_in Text (content volume d)) value
      (ap (λ (bytes : List ℕ). assoc Text (rows_in Text bytes) name) (sym (bytes_begun b v mid m map can.holds id d stored.fresh can.there)) ∙ e) behind_none
