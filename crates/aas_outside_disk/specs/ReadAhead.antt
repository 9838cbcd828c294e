-- What callers see of a disk that reads ahead: the disk below it, and the piece that it read last.
use Rattle.aas_outside_disk.specs.declared.disk.Disk.{Ghosts}
use Rattle.aas_outside_disk.specs.declared.read_ahead.ReadAhead.{ReadAhead}
use Rattle.aas_outside_disk.specs.Piece.{PieceState}

abbrev pub disk_below : {D : Type 0} {ghosts : Ghosts D} → ReadAhead D ghosts → D
disk_below ahead = ahead.disk

abbrev pub piece_of : {D : Type 0} {ghosts : Ghosts D} → ReadAhead D ghosts → PieceState
piece_of ahead = ahead.piece
