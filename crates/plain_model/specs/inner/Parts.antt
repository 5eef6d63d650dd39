-- The parts of a deed of the plain answers, as a deed
use Rattle.cm_history.specs.Deeds.{Deed}
use Rattle.plain_model.specs.declared.deeds.DeedParts.{DeedParts}

abbrev pub deed_of : DeedParts → Deed
deed_of d = record { entry = d.entry; place = d.place; moment = d.moment; answer = d.answer; wrote = d.wrote; served = d.served }
