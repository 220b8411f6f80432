use Rattle.std.proofs.Common.{length, arith}
use Rattle.std.specs.List.{flat_map}
use Rattle.messages.specs.Books.{has_many}
use Rattle.redo_wire.specs.Fields.{u32, u48}
use Rattle.redo_wire.specs.Tags.{delta_tag, roster_delta_tag}
use Rattle.redo_wire.specs.Forms.{form_bytes}
use Rattle.redo_wire.specs.Books.{book_bytes}
use Rattle.redo_wire.specs.Records.{record_bytes}
use Rattle.redo_wire.specs.Deltas.{image_bytes}
use Rattle.redo_wire.proofs.Written.{delta_behind, few_in_delta}
use Rattle.redo_wire.proofs.deltas.put_delta.Goals as goal

pub overflow_cast-pages : goal.overflow_cast-pages
overflow_cast-pages c = let few = (few_in_delta c.args.delta.now c.requires).0 in rw c.pages-pages.ensures.pages (omega (arith, few))

pub overflow_cast-records : goal.overflow_cast-records
overflow_cast-records c = let few = (few_in_delta c.args.delta.now c.requires).1 in rw c.records-records.ensures.records (omega (arith, few))

pub returns-clause-ok : goal.returns-clause-ok
returns-clause-ok c =
    let d = c.args.delta.now in
    rw (
      c.in_ok-put_list-2.ensures.ok,
      c.in_ok-put_u32-2.ensures,
      c.in_ok-put_list.ensures.ok,
      c.in_ok-put_u32.ensures,
      c.in_ok-put_u48.ensures,
      c.in_ok-put_book.ensures.ok,
      c.in_ok-put_form.ensures,
      c.has_many.ensures,
      c.pages-pages.ensures.pages,
      c.records-records.ensures.records,
      c.base.ensures.base,
      c.book-book.ensures.book,
    )
    (delta_behind c.args.out.now.items (form_bytes delta_tag roster_delta_tag (has_many d.book)) (book_bytes (has_many d.book) d.book) (u48 d.base)
    (u32 (length d.pages)) (flat_map image_bytes d.pages) (u32 (length d.records)) (flat_map record_bytes d.records))

pub returns-clause-wire : goal.returns-clause-wire
returns-clause-wire c =
    let few = few_in_delta c.args.delta.now c.requires in
    record {
      shape = c.pages-pages.ensures.shape;
      book = rw c.book-book.ensures.book at c.in_ok-put_book.ensures.wire;
      each_page = rw c.pages-pages.ensures.pages at c.in_ok-put_list.ensures.wire;
      each_record = rw c.records-records.ensures.records at c.in_ok-put_list-2.ensures.wire;
      page_count = few.0;
      record_count = few.1;
    }
