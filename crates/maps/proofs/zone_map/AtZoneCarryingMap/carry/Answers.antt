use Rattle.maps.proofs.Bits.{of_bit}
use Rattle.maps.proofs.zone_map.AtZoneCarryingMap.carry.Goals as goal

pub returns : goal.returns
returns c = record { value = of_bit c.args.value.0 c.args.self.now.zone c.from.result c.from.ensures }
