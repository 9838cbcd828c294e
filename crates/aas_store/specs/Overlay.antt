-- What a shelf is to take at once.
use Rattle.aas_store.specs.Documents.{Map}
use Rattle.aas_store.specs.Merged.{IsRoomFor}
use Rattle.aas_store.specs.declared.overlay.Overlay.{Overlay}

-- the documents under their identifiers
abbrev pub newer_of : {D : Type 0} → Overlay D → Map D
newer_of overlay = overlay.newer

-- its memory holds them and those of a shelf
abbrev pub HasRoomOver : {D : Type 0} → Map D → Overlay D → Type 0
HasRoomOver older overlay = IsRoomFor older overlay.newer overlay.room
