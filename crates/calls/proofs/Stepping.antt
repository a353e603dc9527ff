-- Every definition that a run of calls goes through, so that a statement about given cards is computed: `unfolding stepping` opens them all.
use Prim.Native.Nat.{ℕ}
use Rattle.blocks.specs.Pick.{same, all_zero}
use Rattle.blocks.specs.Bytes.{splice, u32_at, le32, block_count, block_at, store_block, store_all}
use Rattle.blocks.specs.Name.{name_byte, name_length, is_name, is_text, padded}
use Rattle.blocks.specs.Descriptor.{table_count, cost, descriptor_at, revision_at, head_bytes, descriptor_block, revision_ok, reserved_ok, first_tail, phi_ok, clearing, copying, opening}
use Rattle.pieces.specs.Span.{touched, merged}
use Rattle.chains.specs.Chain.{form_ok, region_ok, index_of, named, sound, chain_from, chain, chain_sound, descriptors, chain_place, active_of}
use Rattle.entries.specs.InPlace.{is_descriptor, is_table, is_in_place, contains, owner_index}
use Rattle.entries.specs.Entry.{entry_at, phi_at, table_of, entry_found, find, found_block, located_in, locate, table_is_new, need, table_with, tail_with, set_in_table, set_in_new_table, writing}
use Rattle.calls.specs.Parts.{area_bad, snapshots_of, target_of, is_misplaced, holder_of, block_found}
use Rattle.entries.specs.Naming.{table_namings, tables_namings, phi_namings, namings, among, at_fault, first_fault, check_one}
use Rattle.calls.specs.Check.{or_else, check_all, check_card, is_fault, fault_holder}
use Rattle.calls.specs.Spans.{misplaced_from, span_verdict, gathered, span_bytes, merged_on, span_stores, span_need, write_span_stores, write_span_need}
use Rattle.calls.specs.Ladder.{first_row, admission, ream_rows, read_rows, write_rows, snap_rows, revert_rows, list_rows, check_rows, visit_rows, span_read_rows, span_write_rows}
use Rattle.calls.specs.Stores.{snapping, reverting, write_stores, write_need, snap_stores, revert_stores}
use Rattle.calls.specs.Effect.{listed, given_at, visit_given, given_bytes}
use Rattle.calls.specs.Meaning.{given_of, rows_of, answer_of, stores_of, lent_of, filled_of}
use Rattle.calls.specs.Step.{step, after, outcomes}

unfoldable pub stepping : ℕ
unfolding step after outcomes answer_of rows_of admission first_row ream_rows read_rows write_rows snap_rows revert_rows list_rows check_rows visit_rows span_read_rows span_write_rows
    misplaced_from span_verdict gathered span_bytes touched merged merged_on span_stores span_need write_span_stores write_span_need write_need
    stores_of write_stores snap_stores revert_stores snapping reverting listed given_at visit_given given_bytes lent_of filled_of given_of area_bad active_of snapshots_of target_of is_misplaced holder_of block_found
    entry_at phi_at table_of entry_found find found_block located_in locate table_is_new need table_with tail_with set_in_table set_in_new_table writing is_descriptor is_table is_in_place contains owner_index
    form_ok region_ok index_of named sound chain_from chain chain_sound descriptors chain_place table_count cost descriptor_at head_bytes descriptor_block revision_at revision_ok reserved_ok first_tail phi_ok
    clearing copying opening name_byte name_length is_name is_text padded splice u32_at le32 block_count block_at store_block store_all same all_zero
    table_namings tables_namings phi_namings namings among at_fault first_fault check_one or_else check_all check_card is_fault fault_holder
stepping = 0
