-- The table that a cabling stands for.
use Rattle.paper.specs.Table.{Table, table_of}
use Rattle.cabling.specs.declared.Cabling.{Cabling}

abbrev pub cables : Cabling → Table
cables c = table_of c.upload.bytes.now
