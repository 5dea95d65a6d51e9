-- The table of an upload that passes checks 3 and 4.
use Rattle.paper.specs.Table.{Table, table_of}
use Rattle.table.specs.declared.Exact.{Exact}

abbrev pub table : Exact → Table
table e = table_of e.upload.bytes.now
